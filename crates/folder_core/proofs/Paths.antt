-- Paths, and their texts.
use Rattle.std.proofs.Common.{zero, suc, Option, Some, None, ◌≡◌, ◌≢◌, ℕ, ◌+◌, ◌<◌, ◌≤◌, Bool, true, false, eqb, List, [], ◌∷◌, ◌++◌, length, get_or, take, sym, refl, ap, ◌∙◌, subst, inl, inr, arith, length-append, append_assoc}
use Rattle.std.specs.List.{All, Contains, join_with_byte, slice_split}
use Rattle.std.specs.Option.{SomeIff}
use Rattle.std.proofs.lemmas.List.{get_or_default, take_more, length-take-le}
use Rattle.std.proofs.lemmas.List.Elements.{All-push, All-head, All-tail, All-nil}
use Rattle.std.proofs.lemmas.List.Splits.{slice_split_none, slice_split_at, join_with_byte-slice_split}
use Rattle.std.proofs.lemmas.Bool.{cases_eq}
use Rattle.std.proofs.lemmas.Bool.Decides.{nat_tests}
use Rattle.folder_core.specs.Name.{IsName}
use Rattle.folder_core.specs.Path.{IsPath, IsPathOf, HasNoPath, Pushes, path_text}

pub IsPath-nil : IsPath []
IsPath-nil = record { short = omega arith; names = All-nil IsName }

pub IsPath-push : (path : List (List ℕ)) (name : List ℕ) → length path < 64 → IsPath path → IsName name → IsPath (path ++ name ∷ [])
IsPath-push path name room is is_name = record {
  short = omega (arith, length-append path (name ∷ []));
  names = All-push IsName path name is.names is_name;
}

-- one more name behind those that are there
pub join-push : (c : ℕ) (first : List ℕ) (path : List (List ℕ)) (name : List ℕ) → join_with_byte c ((first ∷ path) ++ name ∷ []) ≡ join_with_byte c (first ∷ path) ++ (c ∷ name)
join-push c first [] name = refl
join-push c first (x ∷ path) name = ap (λ (l : List ℕ). first ++ (c ∷ l)) (join-push c x path name) ∙ sym (append_assoc first (c ∷ join_with_byte c (x ∷ path)) (c ∷ name))

-- the text of one name more, where some are there
pub text_behind : (path : List (List ℕ)) (name : List ℕ) → 0 < length path → path_text (path ++ name ∷ []) ≡ (path_text path ++ 47 ∷ []) ++ name
text_behind [] name some = absurd (omega arith)
text_behind (first ∷ path) name some = join-push 47 first path name ∙ sym (append_assoc (path_text (first ∷ path)) (47 ∷ []) name)

abbrev pub is_slash : ℕ → Bool
is_slash b = eqb b 47

no_slashes : (bytes : List ℕ) → ¬ (Contains bytes 47) → All (λ b. is_slash b ≡ false) bytes
no_slashes bytes none k d below = elim (cases_eq (get_or bytes k d) 47) [
  | inl is ↦ absurd (none (k, below, same is))
  | inr other ↦ grind (arith, nat_tests)
]
  where
    same : get_or bytes k d ≡ 47 → get_or bytes k 47 ≡ 47
    same is = get_or_default bytes k 47 d below ∙ is

-- the text of a path is split into its names
split-text : (first : List ℕ) (path : List (List ℕ)) → All IsName (first ∷ path) → slice_split is_slash (path_text (first ∷ path)) ≡ first ∷ path
split-text first [] names = slice_split_none is_slash first (no_slashes first (All-head IsName first [] names).no_slash)
split-text first (x ∷ path) names =
    slice_split_at is_slash first 47 (path_text (x ∷ path)) (no_slashes first (All-head IsName first (x ∷ path) names).no_slash) refl
    ∙ ap (λ (l : List (List ℕ)). first ∷ l) (split-text x path (All-tail IsName first (x ∷ path) names))

-- a path with a text that isn't empty is what the text is split into
path_from_text : (path : List (List ℕ)) (text : List ℕ) → text ≢ [] → IsPath path → path_text path ≡ text → path ≡ slice_split is_slash text
path_from_text [] text some is spelled = absurd (some (sym spelled))
path_from_text (first ∷ path) text some is spelled = sym (ap (slice_split is_slash) (sym spelled) ∙ split-text first path is.names)

pub no_path_at : (text : List ℕ) (i : ℕ) (piece : List ℕ) → text ≢ [] → i < length (slice_split is_slash text) → piece ≡ get_or (slice_split is_slash text) i piece → ¬ (IsName piece) → HasNoPath text
no_path_at text i piece some below at not_name path is spelled =
    let same = path_from_text path text some is spelled in
    not_name (subst IsName (ap (λ (l : List (List ℕ)). get_or l i piece) same ∙ sym at) (is.names i piece (subst (λ (l : List (List ℕ)). i < length l) (sym same) below)))

pub no_path_so_long : (text : List ℕ) → text ≢ [] → 64 < length (slice_split is_slash text) → HasNoPath text
no_path_so_long text some long path is spelled =
    let same = ap length (path_from_text path text some is spelled) in
    let short = is.short in
    absurd (omega arith)

pub IsPathOf-split : (text : List ℕ) (path : List (List ℕ)) → text ≢ [] → path ≡ slice_split is_slash text → IsPath path → IsPathOf text path
IsPathOf-split text path some is is_path = record {
  is_path = is_path;
  spelling = ap path_text is ∙ join_with_byte-slice_split 47 text;
  only = λ other is_other spelled. path_from_text other text some is_other spelled ∙ sym is;
}

starts : (first : List ℕ) (path : List (List ℕ)) → first ≢ [] → path_text (first ∷ path) ≢ []
starts [] path some is = absurd (some refl)
starts (b ∷ first) [] some is = cc
starts (b ∷ first) (x ∷ path) some is = cc

-- the root alone has an empty text
pub IsPathOf-root : (text : List ℕ) → text ≡ [] → IsPathOf text []
IsPathOf-root text none = record {
  is_path = IsPath-nil;
  spelling = sym none;
  only = λ other is spelled. only other is (spelled ∙ none);
}
  where
    only : (other : List (List ℕ)) → IsPath other → path_text other ≡ [] → other ≡ []
    only [] is spelled = refl
    only (first ∷ path) is spelled = absurd (starts first path (All-head IsName first path is.names).some spelled)

pub text_next : (names : List (List ℕ)) (place : ℕ) (name had text now : List ℕ) → place < length names → name ≡ get_or names place name → 0 < place → had ≡ path_text (take place names) → text ≡ had ++ 47 ∷ [] → now ≡ text ++ name → now ≡ path_text (take (place + 1) names)
text_next names place name had text now below at some so_far slash is =
    let long = length-take-le place names (omega arith) in
    is ∙ ap (λ (l : List ℕ). l ++ name) (slash ∙ ap (λ (l : List ℕ). l ++ 47 ∷ []) so_far)
    ∙ sym (text_behind (take place names) name (omega arith))
    ∙ ap (λ (x : List ℕ). path_text (take place names ++ x ∷ [])) at
    ∙ ap path_text (sym (take_more names place name below))

pub text_first : (names : List (List ℕ)) (place : ℕ) (name had now : List ℕ) → place < length names → name ≡ get_or names place name → place ≤ 0 → had ≡ path_text (take place names) → now ≡ had ++ name → now ≡ path_text (take (place + 1) names)
text_first [] place name had now below at none so_far is = absurd (omega arith)
text_first (first ∷ names) zero name had now below at none so_far is = is ∙ ap (λ (l : List ℕ). l ++ name) so_far ∙ at
text_first (first ∷ names) (suc place) name had now below at none so_far is = absurd (omega arith)

pub some_bytes : (bytes : List ℕ) → false ≡ eqb (length bytes) 0 → bytes ≢ []
some_bytes [] test = absurd (let no : ⊥ = cc in no)
some_bytes (b ∷ bytes) test = λ none. absurd (let no : ⊥ = cc in no)

pub no_name : (name : Option (List ℕ)) (bytes piece : List ℕ) → SomeIff name (IsName bytes) bytes → name ≡ None → bytes ≡ piece → ¬ (IsName piece)
no_name None bytes piece none is same name = none (subst IsName (sym same) name)
no_name (Some x) bytes piece some is same name = cc

pub is_full : (pushed : Bool) (old : List (List ℕ)) (name : List ℕ) (new : List (List ℕ)) → Pushes pushed old name new → pushed ≡ false → length old ≡ 64
is_full true old name new pushes refused = cc
is_full false old name new pushes refused = pushes.0
