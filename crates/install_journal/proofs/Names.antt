-- The names that are written out are names.
use Rattle.std.proofs.Common.{◌≡◌, ◌≢◌, ℕ, ◌<◌, ◌≤◌, ◌==◌, ◌&&◌, not, Bool, true, false, nat_le, List, [], ◌∷◌, length, get_or, refl, arith, lit≤, ⊎_elim, codes}
use Rattle.std.specs.List.{list_all, AllPass}
use Rattle.std.specs.Str.{IsAscii}
use Rattle.std.proofs.lemmas.Str.{IsUtf8-from_ascii}
use Rattle.std.proofs.lemmas.Bool.{cases_lt, false≢true}
use Rattle.std.proofs.lemmas.Bool.Decides.{nat_tests}
use Rattle.std.proofs.lemmas.List.{get_or_past}
use Rattle.std.proofs.lemmas.List.Elements.{All-nil, All-cons, All-contains}
use Rattle.folder_core.specs.Name.{IsName}

abbrev is_plain : ℕ → Bool
is_plain b = nat_le 33 b && nat_le b 126 && not (b == 47)

front_true : (p q : Bool) → (p && q) ≡ true → p ≡ true
front_true true q h = refl
front_true false q h = h

back_true : (p q : Bool) → (p && q) ≡ true → q ≡ true
back_true true q h = h
back_true false q h = absurd (false≢true h)

plain_below : (b : ℕ) → is_plain b ≡ true → b < 128
plain_below b h =
    let le : nat_le b 126 ≡ true = back_true (nat_le 33 b) (nat_le b 126) (front_true (nat_le 33 b && nat_le b 126) (not (b == 47)) h) in
    grind (arith, nat_tests)

all_plain : (bytes : List ℕ) → list_all is_plain bytes ≡ true → AllPass is_plain bytes
all_plain [] h = All-nil (λ b. is_plain b ≡ true)
all_plain (b ∷ bytes) h =
    All-cons (λ x. is_plain x ≡ true) b bytes (front_true (is_plain b) (list_all is_plain bytes) h) (all_plain bytes (back_true (is_plain b) (list_all is_plain bytes) h))

plain_ascii : (bytes : List ℕ) → AllPass is_plain bytes → IsAscii bytes
plain_ascii bytes all i = ⊎_elim
    (λ within. plain_below (get_or bytes i 0) (all i 0 within))
    (λ past. let none : get_or bytes i 0 ≡ 0 = get_or_past bytes i 0 past in omega arith)
    (cases_lt i (length bytes))

plain_name : (bytes : List ℕ) → list_all is_plain bytes ≡ true → length bytes ≤ 255 → bytes ≢ [] → bytes ≢ codes "." → bytes ≢ codes ".." → IsName bytes
plain_name bytes each short some dot dots =
    let all : AllPass is_plain bytes = all_plain bytes each in
    record {
      utf8 = IsUtf8-from_ascii bytes (plain_ascii bytes all);
      some = some;
      short = short;
      no_slash = λ has. false≢true (All-contains (λ b. is_plain b ≡ true) bytes 47 all has);
      no_nul = λ has. false≢true (All-contains (λ b. is_plain b ≡ true) bytes 0 all has);
      no_dot = dot;
      no_dots = dots;
    }

pub journal_is_name : IsName (codes ".p2")
journal_is_name = plain_name (codes ".p2") refl (lit≤ tt) (λ e. cc) (λ e. cc) (λ e. cc)

pub undo_is_name : IsName (codes "undo")
undo_is_name = plain_name (codes "undo") refl (lit≤ tt) (λ e. cc) (λ e. cc) (λ e. cc)

pub entries_is_name : IsName (codes "e")
entries_is_name = plain_name (codes "e") refl (lit≤ tt) (λ e. cc) (λ e. cc) (λ e. cc)
