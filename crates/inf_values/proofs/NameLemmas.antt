-- Keys of names are tied exactly where the names are one.
use Rattle.std.proofs.Common.{◌≡◌, ℕ, ◌==◌, ◌&&◌, ◌||◌, Bool, true, false, List, map, [], ◌∷◌, refl, sym, ap, ◌∙◌, arith}
use Rattle.std.specs.List.{list_any}
use Rattle.std.specs.Str.{bytes_eq}
use Rattle.std.specs.Ordering.{nat_cmp, ordering_then, match_ordering, is_eq}
use Rattle.std.specs.Cmp.{tied_then}
use Rattle.std.specs.BTreeSet.{insert_key}
use Rattle.std.specs.String.{string_bytes, string_cmp}
use Rattle.std.specs.declared.cmp.Ordering.{Ordering}
use Rattle.std.specs.declared.cmp.Ordering.TheVariants.{Less, Equal, Greater}
use Rattle.std.proofs.lemmas.Bool.Decides.{nat_tests}
use Rattle.std.proofs.lemmas.Map.Text.{is_eq-slice_cmp}
use Rattle.std.proofs.lemmas.Slice.Eq.{bytes_eq-Decides}
use Rattle.unit_model.specs.declared.name.UnitName.{UnitName}
use Rattle.inf_values.specs.declared.names.NameKey.{NameKey}
use Rattle.inf_values.specs.NameKeys.{name_in, is_among}
use Rattle.inf_values.specs.SameName.{same_name}
use Rattle.inf_values.proofs.NumberOrder.{tied_numbers}

bytes_eq-flip : (a b : List ℕ) → bytes_eq a b ≡ bytes_eq b a
bytes_eq-flip a b = by (bytes_eq a b) (bytes_eq b a) refl refl
  where
    by : (s t : Bool) → bytes_eq a b ≡ s → bytes_eq b a ≡ t → s ≡ t
    by true true e f = refl
    by false false e f = refl
    by true false e f = sym (sym f ∙ (bytes_eq-Decides b a).1 (sym ((bytes_eq-Decides a b).0 e)))
    by false true e f = sym e ∙ (bytes_eq-Decides a b).1 (sym ((bytes_eq-Decides b a).0 f))

numbers-flip : (x y : ℕ) → (x == y) ≡ (y == x)
numbers-flip x y = by (x == y) (y == x) refl refl
  where
    by : (s t : Bool) → (x == y) ≡ s → (y == x) ≡ t → s ≡ t
    by true true e f = refl
    by false false e f = refl
    by true false e f = absurd (grind (arith, nat_tests))
    by false true e f = absurd (grind (arith, nat_tests))

same_name-flip : (a b : UnitName) → same_name a b ≡ same_name b a
same_name-flip a b =
    let id = bytes_eq-flip a.id b.id in
    let major = numbers-flip a.version.major b.version.major in
    let minor = numbers-flip a.version.minor b.version.minor in
    let micro = numbers-flip a.version.micro b.version.micro in
    let qualifier = bytes_eq-flip a.version.qualifier b.version.qualifier in
    cc

text_is : (a b : List ℕ) → bytes_eq a b ≡ true → a ≡ b
text_is a b e = (bytes_eq-Decides a b).0 e

number_is : (x y : ℕ) → (x == y) ≡ true → x ≡ y
number_is x y e = grind (arith, nat_tests)

both_true : (x y : Bool) → (x && y) ≡ true → (x ≡ true) × (y ≡ true)
both_true true true e = (refl, refl)
both_true true false e = absurd (cc)
both_true false y e = absurd (cc)

-- Names that pass the test are one.
pub same_name-is : (a b : UnitName) → same_name a b ≡ true → a ≡ b
same_name-is a b e =
    let id = both_true _ _ e in
    let major = both_true _ _ id.1 in
    let minor = both_true _ _ major.1 in
    let micro = both_true _ _ minor.1 in
    let ids = text_is a.id b.id id.0 in
    let majors = number_is a.version.major b.version.major major.0 in
    let minors = number_is a.version.minor b.version.minor minor.0 in
    let micros = number_is a.version.micro b.version.micro micro.0 in
    let qualifiers = text_is a.version.qualifier b.version.qualifier micro.1 in
    λ i. record { id = ids i; version = record { major = majors i; minor = minors i; micro = micros i; qualifier = qualifiers i } }

-- by id, and then by the parts of the version
abbrev pub key_cmp : NameKey → NameKey → Ordering
key_cmp a b =
    ordering_then (string_cmp a.id b.id)
    (ordering_then (nat_cmp a.major b.major)
    (ordering_then (nat_cmp a.minor b.minor)
    (ordering_then (nat_cmp a.micro b.micro) (string_cmp a.qualifier b.qualifier))))

-- Keys are tied exactly where the names are one.
pub tied_names : (a b : NameKey) → is_eq (key_cmp a b) ≡ same_name (name_in a) (name_in b)
tied_names a b =
    let id = is_eq-slice_cmp (string_bytes a.id) (string_bytes b.id) in
    let qualifier = is_eq-slice_cmp (string_bytes a.qualifier) (string_bytes b.qualifier) in
    let major = tied_numbers a.major b.major in
    let minor = tied_numbers a.minor b.minor in
    let micro = tied_numbers a.micro b.micro in
    let fourth = tied_then (nat_cmp a.micro b.micro) (string_cmp a.qualifier b.qualifier) in
    let third = tied_then (nat_cmp a.minor b.minor) (ordering_then (nat_cmp a.micro b.micro) (string_cmp a.qualifier b.qualifier)) in
    let second = tied_then (nat_cmp a.major b.major) (ordering_then (nat_cmp a.minor b.minor) (ordering_then (nat_cmp a.micro b.micro) (string_cmp a.qualifier b.qualifier))) in
    let first = tied_then (string_cmp a.id b.id) (ordering_then (nat_cmp a.major b.major) (ordering_then (nat_cmp a.minor b.minor) (ordering_then (nat_cmp a.micro b.micro) (string_cmp a.qualifier b.qualifier)))) in
    cc

pub or_false : (b : Bool) → (b || false) ≡ b
or_false true = refl
or_false false = refl

or_more : (a b t : Bool) → (a || (b || t)) ≡ ((a || b) || t)
or_more true b t = refl
or_more false b t = refl

or_last : (a b : Bool) → (b || a) ≡ (a || b)
or_last true true = refl
or_last true false = refl
or_last false true = refl
or_last false false = refl

or_absorbs : (a b t : Bool) → t ≡ a → (a || b) ≡ ((a || b) || t)
or_absorbs true b t e = refl
or_absorbs false b t e = sym (ap (λ x. b || x) e ∙ or_false b)

-- the names that the keys have
abbrev has : List NameKey → UnitName → Bool
has keys name = is_among (map name_in keys) name

-- A key is found exactly where its name is among those of the keys.
pub found_name : (key : NameKey) (keys : List NameKey) → list_any (λ k. is_eq (key_cmp key k)) keys ≡ has keys (name_in key)
found_name key [] = refl
found_name key (k ∷ keys) = λ i. (tied_names key k ∙ same_name-flip (name_in key) (name_in k)) i || found_name key keys i

same_names : (a b : NameKey) → key_cmp a b ≡ Equal → name_in a ≡ name_in b
same_names a b e = same_name-is (name_in a) (name_in b) (sym (tied_names a b) ∙ ap is_eq e)

-- one name more
pub inserted_name : (key : NameKey) (keys : List NameKey) (other : UnitName) → has (insert_key key_cmp keys key) other ≡ (has keys other || same_name (name_in key) other)
inserted_name key [] other = or_last false (same_name (name_in key) other)
inserted_name key (k ∷ keys) other = by (key_cmp key k) refl (inserted_name key keys other)
  where
    by : (o : Ordering) → key_cmp key k ≡ o → has (insert_key key_cmp keys key) other ≡ (has keys other || same_name (name_in key) other)
        → has (match_ordering o (key ∷ k ∷ keys) (k ∷ keys) (k ∷ insert_key key_cmp keys key)) other ≡ ((same_name (name_in k) other || has keys other) || same_name (name_in key) other)
    by Less e more = or_last (same_name (name_in k) other || has keys other) (same_name (name_in key) other)
    by Equal e more = or_absorbs (same_name (name_in k) other) (has keys other) (same_name (name_in key) other) (ap (λ n. same_name n other) (same_names key k e))
    by Greater e more = ap (λ b. same_name (name_in k) other || b) more ∙ or_more (same_name (name_in k) other) (has keys other) (same_name (name_in key) other)
