-- The order of numbers, case by case.
use Rattle.std.proofs.Common.{◌≡◌, ◌⊎◌, ℕ, ◌<◌, ◌==◌, nat_lt, Bool, true, false, inl, inr, refl, sym, ap, ◌∙◌, arith}
use Rattle.std.proofs.lemmas.Bool.Decides.{nat_tests}
use Rattle.std.specs.Ordering.{nat_cmp, is_eq}
use Rattle.std.specs.Cmp.{nat_cmp_is}
use Rattle.std.specs.declared.cmp.Ordering.TheVariants.{Less, Equal, Greater}

pub less : (x y : ℕ) → x < y → nat_cmp x y ≡ Less
less x y h = sym (nat_cmp_is x y Less h)

pub equal : (x y : ℕ) → x ≡ y → nat_cmp x y ≡ Equal
equal x y h = sym (nat_cmp_is x y Equal h)

pub greater : (x y : ℕ) → y < x → nat_cmp x y ≡ Greater
greater x y h = sym (nat_cmp_is x y Greater h)

pub ordered : (x y : ℕ) → (x < y) ⊎ ((x ≡ y) ⊎ (y < x))
ordered x y = by (nat_lt x y) refl
  where
    later : (t : Bool) → nat_lt x y ≡ false → nat_lt y x ≡ t → (x < y) ⊎ ((x ≡ y) ⊎ (y < x))
    later true e f = inr (inr (grind (arith, nat_tests)))
    later false e f = inr (inl (grind (arith, nat_tests)))

    by : (t : Bool) → nat_lt x y ≡ t → (x < y) ⊎ ((x ≡ y) ⊎ (y < x))
    by true e = inl (grind (arith, nat_tests))
    by false e = later (nat_lt y x) e refl

-- Numbers are tied exactly where they are one.
pub tied_numbers : (x y : ℕ) → is_eq (nat_cmp x y) ≡ (x == y)
tied_numbers x y = elim (ordered x y) [
  | inl h ↦ let other : (x == y) ≡ false = grind (arith, nat_tests) in ap is_eq (less x y h) ∙ sym other
  | inr r ↦ elim r [
    | inl h ↦ let same : (x == y) ≡ true = grind (arith, nat_tests) in ap is_eq (equal x y h) ∙ sym same
    | inr h ↦ let other : (x == y) ≡ false = grind (arith, nat_tests) in ap is_eq (greater x y h) ∙ sym other
  ]
]
