-- Which bytes are names, and paths of them.
use Rattle.std.proofs.Common.{◌≡◌, ℕ, ◌<◌, ◌≤◌, ◌==◌, ◌&&◌, not, Bool, true, false, nat_le, List, [], ◌∷◌, length, get_or, All, refl, sym, subst, arith, lit≤, ⊎_elim}
use Rattle.std.specs.List.{list_all}
use Rattle.std.specs.Str.{IsAscii}
use Rattle.std.proofs.lemmas.Str.{IsUtf8-from_ascii}
use Rattle.std.proofs.lemmas.Bool.{cases_lt}
use Rattle.std.proofs.lemmas.Bool.Decides.{nat_tests}
use Rattle.std.proofs.lemmas.List.{get_or_past}
use Rattle.std.specs.Prelude.{codes}
use Rattle.std.specs.List.{AllPass}
use Rattle.std.proofs.lemmas.Bool.{false≢true}
use Rattle.std.proofs.lemmas.List.Elements.{All-head, All-nil, All-cons, All-contains}
use Rattle.osgi_version.proofs.VersionViews.{qualifier_utf8}
use Rattle.unit_model.specs.Profile.{IsProfile, is_profile_byte}
use Rattle.folder_core.specs.Name.{IsName}

-- bytes that are all letters, digits, `_` or `-` make a name
pub profile_is_name : (profile : List ℕ) → IsProfile profile → IsName profile
profile_is_name profile is_profile = record {
  utf8 = qualifier_utf8 profile is_profile.each;
  some = is_profile.some;
  short = omega (arith, is_profile.short);
  no_slash = λ has. false≢true (All-contains (λ b. is_profile_byte b ≡ true) profile 47 is_profile.each has);
  no_nul = λ has. false≢true (All-contains (λ b. is_profile_byte b ≡ true) profile 0 is_profile.each has);
  no_dot = λ e. let P : List ℕ → Type 0 = AllPass is_profile_byte in false≢true (All-head (λ b. is_profile_byte b ≡ true) 46 [] (subst P e is_profile.each));
  no_dots = λ e. let P : List ℕ → Type 0 = AllPass is_profile_byte in false≢true (All-head (λ b. is_profile_byte b ≡ true) 46 (46 ∷ []) (subst P e is_profile.each));
}

pub one_name : (a : List ℕ) → IsName a → All IsName (a ∷ [])
one_name a h = All-cons IsName a [] h (All-nil IsName)

pub two_names : (a b : List ℕ) → IsName a → IsName b → All IsName (a ∷ b ∷ [])
two_names a b h k = All-cons IsName a (b ∷ []) h (one_name b k)

pub three_names : (a b c : List ℕ) → IsName a → IsName b → IsName c → All IsName (a ∷ b ∷ c ∷ [])
three_names a b c h k l = All-cons IsName a (b ∷ c ∷ []) h (two_names b c k l)

first_true : (p q : Bool) → (p && q) ≡ true → p ≡ true
first_true true q h = refl
first_true false q h = h

last_true : (p q : Bool) → (p && q) ≡ true → q ≡ true
last_true true q h = h
last_true false q h = absurd (false≢true h)

-- a name that is written out
abbrev is_plain_byte : ℕ → Bool
is_plain_byte b = nat_le 33 b && nat_le b 126 && not (b == 47)

plain_below : (b : ℕ) → is_plain_byte b ≡ true → b < 128
plain_below b h =
    let le : nat_le b 126 ≡ true = last_true (nat_le 33 b) (nat_le b 126) (first_true (nat_le 33 b && nat_le b 126) (not (b == 47)) h) in
    grind (arith, nat_tests)

all_from_test : (bytes : List ℕ) → list_all is_plain_byte bytes ≡ true → AllPass is_plain_byte bytes
all_from_test [] h = All-nil (λ x. is_plain_byte x ≡ true)
all_from_test (b ∷ bytes) h =
    All-cons (λ x. is_plain_byte x ≡ true) b bytes (first_true (is_plain_byte b) (list_all is_plain_byte bytes) h) (all_from_test bytes (last_true (is_plain_byte b) (list_all is_plain_byte bytes) h))

ascii_from : (bytes : List ℕ) → AllPass is_plain_byte bytes → IsAscii bytes
ascii_from bytes all i = ⊎_elim
    (λ within. plain_below (get_or bytes i 0) (all i 0 within))
    (λ past. let e : get_or bytes i 0 ≡ 0 = get_or_past bytes i 0 past in omega arith)
    (cases_lt i (length bytes))

plain_is_name : (b : ℕ) (bytes : List ℕ) → list_all is_plain_byte (b ∷ bytes) ≡ true → (b == 46) ≡ false → length (b ∷ bytes) ≤ 255 → IsName (b ∷ bytes)
plain_is_name b bytes each first short =
    let all : AllPass is_plain_byte (b ∷ bytes) = all_from_test (b ∷ bytes) each in
    record {
      utf8 = IsUtf8-from_ascii (b ∷ bytes) (ascii_from (b ∷ bytes) all);
      some = λ e. cc;
      short = short;
      no_slash = λ has. false≢true (All-contains (λ x. is_plain_byte x ≡ true) (b ∷ bytes) 47 all has);
      no_nul = λ has. false≢true (All-contains (λ x. is_plain_byte x ≡ true) (b ∷ bytes) 0 all has);
      no_dot = λ e. let dot : b ≡ 46 = cc in let P : ℕ → Type 0 = λ x. (x == 46) ≡ false in false≢true (sym (subst P dot first));
      no_dots = λ e. let dot : b ≡ 46 = cc in let P : ℕ → Type 0 = λ x. (x == 46) ≡ false in false≢true (sym (subst P dot first));
    }

pub profiles_is_name : IsName (codes "profiles")
profiles_is_name = plain_is_name 112 (codes "rofiles") refl refl (lit≤ tt)

pub installs_is_name : IsName (codes "installs")
installs_is_name = plain_is_name 105 (codes "nstalls") refl refl (lit≤ tt)

pub pool_is_name : IsName (codes "pool")
pool_is_name = plain_is_name 112 (codes "ool") refl refl (lit≤ tt)

pub state_is_name : IsName (codes "1.state")
state_is_name = plain_is_name 49 (codes ".state") refl refl (lit≤ tt)

pub current_is_name : IsName (codes "current")
current_is_name = plain_is_name 99 (codes "urrent") refl refl (lit≤ tt)
