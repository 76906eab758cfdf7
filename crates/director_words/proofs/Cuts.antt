-- What stands before the first `/` of a word, or before its first `=`.
use Rattle.std.proofs.Common.{◌≡◌, ◌≢◌, ℕ, arith, ◌&&◌, ◌==◌, not, Bool, true, false, List, [], ◌∷◌, ◌++◌, Option, Some, None, Bor, MatchOption, refl, ap, sym, ◌∙◌, subst}
use Rattle.std.specs.Option.{IsSomeAnd}
use Rattle.std.specs.List.{AllPass}
use Rattle.std.proofs.lemmas.Bool.{false≢true}
use Rattle.std.proofs.lemmas.List.Elements.{All-head, All-tail, All-weaker}
use Rattle.osgi_version.specs.declared.version.Version.{Version}
use Rattle.osgi_version.specs.VersionText.{DenotesVersion}
use Rattle.unit_model.specs.UnitId.{IsUnitId, is_id_byte}
use Rattle.director_words.specs.declared.root.Root.{Root}
use Rattle.director_words.specs.Root.{DenotesRoot}
use Rattle.director_words.specs.Slash.{is_no_slash, is_no_equals}
use Rattle.ldap_filter.specs.EnvPairs.{IsEnvKey, is_key_byte}
use Rattle.director_words.specs.Pair.{IsPair}

-- any byte but one
abbrev pub IsOther : ℕ → ℕ → Type 0
IsOther separator b = not (b == separator) ≡ true

abbrev pub AllOther : ℕ → List ℕ → Type 0
AllOther separator = AllPass (λ b. not (b == separator))

not_other : (c b : ℕ) → b ≡ c → IsOther c b → ⊥
not_other c b e h = grind (arith, e, h)

-- the part before the first separator is given by the whole
pub cut_same : (c : ℕ) (a b x y : List ℕ) → AllOther c a → AllOther c b → a ++ c ∷ x ≡ b ++ c ∷ y → (a ≡ b) × (x ≡ y)
cut_same c [] [] x y p q e = (refl, cc)
cut_same c [] (d ∷ b) x y p q e = absurd (not_other c d (cc) (All-head (IsOther c) d b q))
cut_same c (d ∷ a) [] x y p q e = absurd (not_other c d (cc) (All-head (IsOther c) d a p))
cut_same c (d ∷ a) (f ∷ b) x y p q e =
    let rest : a ++ c ∷ x ≡ b ++ c ∷ y = cc in
    let same = cut_same c a b x y (All-tail (IsOther c) d a p) (All-tail (IsOther c) f b q) rest in
    (cc, same.1)

pub no_separator_within : (c : ℕ) (a b y : List ℕ) → AllOther c a → a ≡ b ++ c ∷ y → ⊥
no_separator_within c [] [] y p e = cc
no_separator_within c [] (d ∷ b) y p e = cc
no_separator_within c (d ∷ a) [] y p e = not_other c d (cc) (All-head (IsOther c) d a p)
no_separator_within c (d ∷ a) (f ∷ b) y p e = no_separator_within c a b y (All-tail (IsOther c) d a p) cc

last_true : (p q : Bool) → (p && q) ≡ true → q ≡ true
last_true true q h = h
last_true false q h = absurd (false≢true h)

pub no_slash_in_id : (id : List ℕ) → IsUnitId id → AllPass is_no_slash id
no_slash_in_id id is_id =
    All-weaker (λ b. is_id_byte b ≡ true) (IsOther 47) (λ b h. last_true _ _ h) id is_id.each

-- A root's word is cut where its id ends.
pub parts_same : (word id root : List ℕ) (behind : Option (Bor (List ℕ))) (version : Option Version)
    → AllPass is_no_slash id
    → AllPass is_no_slash root
    → MatchOption behind (word ≡ id) (λ text. word ≡ id ++ 47 ∷ text.now)
    → MatchOption version (word ≡ root) (λ v. (text : List ℕ) × (text ≢ []) × (word ≡ root ++ 47 ∷ text) × DenotesVersion text v)
    → (id ≡ root) × MatchOption behind (version ≡ None) (λ text. IsSomeAnd version (λ v. (text.now ≢ []) × DenotesVersion text.now v))
parts_same word id root None None p q e d = (sym e ∙ d, refl)
parts_same word id root None (Some v) p q e d = absurd (no_separator_within 47 id root d.0 p (sym e ∙ d.2))
parts_same word id root (Some text) None p q e d = absurd (no_separator_within 47 root id text.now q (sym d ∙ e))
parts_same word id root (Some text) (Some v) p q e d =
    let same = cut_same 47 id root text.now d.0 p q (sym e ∙ d.2) in
    let Fits : List ℕ → Type 0 = λ t. (t ≢ []) × DenotesVersion t v in
    (same.0, subst Fits (sym same.1) (d.1, d.3))

-- what was cut off is the root's, whatever root the word denotes
pub root_parts : (word id : List ℕ) (behind : Option (Bor (List ℕ))) (root : Root)
    → AllPass is_no_slash id
    → MatchOption behind (word ≡ id) (λ text. word ≡ id ++ 47 ∷ text.now)
    → DenotesRoot word root
    → (id ≡ root.id) × MatchOption behind (root.version ≡ None) (λ text. IsSomeAnd root.version (λ v. (text.now ≢ []) × DenotesVersion text.now v))
root_parts word id behind root p e d =
    parts_same word id root.id behind root.version p (no_slash_in_id root.id d.0) e d.1

pub root_same : (id : List ℕ) (version : Option Version) (root : Root) → id ≡ root.id → version ≡ root.version → record { id = id; version = version } ≡ root
root_same id version root e f =
    ap (λ (i : List ℕ). record { id = i; version = version }) e
    ∙ ap (λ (v : Option Version). record { id = root.id; version = v }) f

-- a version that some text denotes is the one that was read of it
pub known_version : (text : List ℕ) (read version : Option Version)
    → ((v : Version) → text ≢ [] → DenotesVersion text v → read ≡ Some v)
    → IsSomeAnd version (λ v. (text ≢ []) × DenotesVersion text v)
    → read ≡ version
known_version text read None only d = absurd d
known_version text read (Some v) only d = only v d.0 d.1

-- where a text behind the `/` was cut off, the root has a version that it denotes
pub root_version : (word id : List ℕ) (behind : Option (Bor (List ℕ))) (text : Bor (List ℕ)) (root : Root)
    → AllPass is_no_slash id
    → MatchOption behind (word ≡ id) (λ b. word ≡ id ++ 47 ∷ b.now)
    → behind ≡ Some text
    → DenotesRoot word root
    → (id ≡ root.id) × IsSomeAnd root.version (λ v. (text.now ≢ []) × DenotesVersion text.now v)
root_version word id behind text root p whole is d =
    let Whole : Option (Bor (List ℕ)) → Type 0 = λ b. MatchOption b (word ≡ id) (λ t. word ≡ id ++ 47 ∷ t.now) in
    root_parts word id (Some text) root p (subst Whole is whole) d

no_equals_in_key : (key : List ℕ) → IsEnvKey key → AllPass is_no_equals key
no_equals_in_key key is_key =
    All-weaker (λ b. is_key_byte b ≡ true) (IsOther 61) (λ b h. last_true _ _ h) key is_key.each

-- a word without `=` is no pair
pub no_pair : (word : List ℕ) → AllPass is_no_equals word → IsPair word → ⊥
no_pair word p pair = no_separator_within 61 word pair.key pair.value p pair.whole

-- a pair's key is what stands before the first `=`
pub key_of_pair : (word key value : List ℕ) → AllPass is_no_equals key → word ≡ key ++ 61 ∷ value → IsPair word → IsEnvKey key
key_of_pair word key value p whole pair =
    let same = cut_same 61 pair.key key pair.value value (no_equals_in_key pair.key pair.is_key) p (sym pair.whole ∙ whole) in
    subst IsEnvKey same.0 pair.is_key
