-- The names of the journal's places are names, and tell the places apart.
use Rattle.std.proofs.Common.{◌≡◌, ◌≢◌, ℕ, ◌+◌, ◌^◌, ◌<◌, ◌≤◌, List, [], ◌∷◌, ◌++◌, length, get_or, All, refl, ◌∙◌, ap, arith, lit≤, ⊎_elim, length-append}
use Rattle.std.specs.Prelude.{codes}
use Rattle.std.specs.Fmt.{decimal}
use Rattle.std.specs.Str.{IsAscii}
use Rattle.std.proofs.lemmas.Str.{IsUtf8-from_ascii}
use Rattle.std.proofs.lemmas.Bool.{cases_lt}
use Rattle.std.proofs.lemmas.Fmt.{length-decimal-le, decimal_injective}
use Rattle.std.proofs.Math.Seq.{get_or-append_seam}
use Rattle.std.proofs.lemmas.List.{get_or_past, append_cancel_right}
use Rattle.std.proofs.lemmas.List.Elements.{All-head, All-nil, All-cons, All-append, All-contains}
use Rattle.folder_core.specs.Name.{IsName}
use Rattle.folder_core.specs.Path.{IsPath}
use Rattle.folder_core.specs.Node.{entries_path}
use Rattle.folder_core.proofs.Paths.{IsPath-nil, IsPath-push}
use Rattle.backup_store.specs.Places.{entry_path, mark_path}
use Rattle.backup_store.proofs.Texts.{AreDigits, AreDigits-decimal}

-- printable ASCII without the slash
record IsPlain (b : ℕ) : Type 0 where
  high : 33 ≤ b
  low : b ≤ 126
  no_slash : b ≢ 47

plain_ascii : (bytes : List ℕ) → All IsPlain bytes → IsAscii bytes
plain_ascii bytes all i = ⊎_elim
    (λ within. let plain = all i 0 within in let low = plain.low in omega arith)
    (λ past. let e : get_or bytes i 0 ≡ 0 = get_or_past bytes i 0 past in omega arith)
    (cases_lt i (length bytes))

plain_name : (bytes : List ℕ) → All IsPlain bytes → bytes ≢ [] → length bytes ≤ 255 → bytes ≢ codes "." → bytes ≢ codes ".." → IsName bytes
plain_name bytes all some short no_dot no_dots = record {
  utf8 = IsUtf8-from_ascii bytes (plain_ascii bytes all);
  some = some;
  short = short;
  no_slash = λ has. (All-contains IsPlain bytes 47 all has).no_slash refl;
  no_nul = λ has. let high = (All-contains IsPlain bytes 0 all has).high in omega arith;
  no_dot = no_dot;
  no_dots = no_dots;
}

plain : (b : ℕ) → 48 ≤ b → b ≤ 126 → IsPlain b
plain b high low = record { high = omega arith; low = low; no_slash = λ is. omega arith }

dot : IsPlain 46
dot = record { high = lit≤ tt; low = lit≤ tt; no_slash = λ is. omega arith }

two : (a b : ℕ) → IsPlain a → IsPlain b → All IsPlain (a ∷ b ∷ [])
two a b first second = All-cons IsPlain a (b ∷ []) first (All-cons IsPlain b [] second (All-nil IsPlain))

plain_digits : (bytes : List ℕ) → AreDigits bytes → All IsPlain bytes
plain_digits bytes are k d below = let digit = are k d below in plain (get_or bytes k d) digit.0 (omega (arith, digit.1))

pub journal_name : IsName (codes ".p2")
journal_name = plain_name (codes ".p2") (All-cons IsPlain 46 (112 ∷ 50 ∷ []) dot (two 112 50 (plain 112 (lit≤ tt) (lit≤ tt)) (plain 50 (lit≤ tt) (lit≤ tt)))) (λ is. cc) (lit≤ tt) (λ is. cc) (λ is. let second : 112 ≡ 46 = ap (λ (l : List ℕ). get_or l 1 0) is in omega (arith, second))

pub entries_name : IsName (codes "e")
entries_name = plain_name (codes "e") (All-cons IsPlain 101 [] (plain 101 (lit≤ tt) (lit≤ tt)) (All-nil IsPlain)) (λ is. cc) (lit≤ tt) (λ is. let first : 101 ≡ 46 = ap (λ (l : List ℕ). get_or l 0 0) is in omega (arith, first)) (λ is. cc)

no_digit_dot : (bytes : List ℕ) → ¬ (AreDigits (46 ∷ bytes))
no_digit_dot bytes are = let digit = All-head (λ b. (48 ≤ b) × (b ≤ 57)) 46 bytes are in omega (arith, digit.0)

plain_ok : All IsPlain (codes ".ok")
plain_ok = All-cons IsPlain 46 (111 ∷ 107 ∷ []) dot (two 111 107 (plain 111 (lit≤ tt) (lit≤ tt)) (plain 107 (lit≤ tt) (lit≤ tt)))

pub mark_name : (k : ℕ) → k < 2 ^ 32 → IsName (decimal k ++ codes ".ok")
mark_name k small =
    let within : k < 2 ^ 64 = omega arith in
    let are = AreDigits-decimal k within in
    let short = length-decimal-le 20 k (omega arith) (omega arith) within in
    let both : length (decimal k ++ codes ".ok") ≡ length (decimal k) + 3 = length-append (decimal k) (codes ".ok") in
    plain_name (decimal k ++ codes ".ok") (All-append IsPlain (decimal k) (codes ".ok") (plain_digits (decimal k) are) plain_ok)
    (λ is. omega (arith, both, ap length is)) (omega (arith, short, both)) (λ is. omega (arith, both, ap length is)) (λ is. omega (arith, both, ap length is))

in_entries : (name : List ℕ) → IsName name → IsPath (entries_path ++ name ∷ [])
in_entries name is =
    IsPath-push entries_path name (omega arith) (IsPath-push (codes ".p2" ∷ []) (codes "e") (omega arith) (IsPath-push [] (codes ".p2") (omega arith) IsPath-nil journal_name) entries_name) is

pub mark_is_path : (k : ℕ) → k < 2 ^ 32 → IsPath (mark_path k)
mark_is_path k small = in_entries (decimal k ++ codes ".ok") (mark_name k small)

-- The mark isn't the entry.
pub mark_apart : (k : ℕ) → mark_path k ≢ entry_path k
mark_apart k is =
    let name : decimal k ++ codes ".ok" ≡ decimal k = ap (λ (p : List (List ℕ)). get_or p 2 []) is in
    let longer : length (decimal k ++ codes ".ok") ≡ length (decimal k) + 3 = length-append (decimal k) (codes ".ok") in
    omega (arith, longer, ap length name)

-- Two entries have two files, and two marks, and no file is a mark.
pub entries_apart : (a b : ℕ) → a < 2 ^ 32 → b < 2 ^ 32 → a ≢ b → entry_path a ≢ entry_path b
entries_apart a b small_a small_b apart same = apart (decimal_injective a b (omega arith) (omega arith) (ap (λ (p : List (List ℕ)). get_or p 2 []) same))

pub marks_apart : (a b : ℕ) → a < 2 ^ 32 → b < 2 ^ 32 → a ≢ b → mark_path a ≢ mark_path b
marks_apart a b small_a small_b apart same =
    apart (decimal_injective a b (omega arith) (omega arith) (append_cancel_right (decimal a) (decimal b) (codes ".ok") (ap (λ (p : List (List ℕ)). get_or p 2 []) same)))

no_mark_name : (a b : ℕ) → a < 2 ^ 32 → decimal a ≢ decimal b ++ codes ".ok"
no_mark_name a b small same =
    let are = AreDigits-decimal a (omega arith) in
    let long : length (decimal b) < length (decimal a) = omega (arith, ap length same, length-append (decimal b) (codes ".ok")) in
    let dot : get_or (decimal a) (length (decimal b)) 0 ≡ 46 = ap (λ (l : List ℕ). get_or l (length (decimal b)) 0) same ∙ get_or-append_seam (decimal b) 46 (codes "ok") 0 in
    let digit = are (length (decimal b)) 0 long in
    absurd (omega (arith, dot, digit.0))

pub entry_no_mark : (a b : ℕ) → a < 2 ^ 32 → entry_path a ≢ mark_path b
entry_no_mark a b small same = no_mark_name a b small (ap (λ (p : List (List ℕ)). get_or p 2 []) same)
