-- `==` on the values of an assignment.
use Rattle.std.specs.Prelude.{◌≡◌, Bool, true, false, List, Option}
use Rattle.std.specs.Cmp.{IsEquivalence, IsPartialEquivalence, partial_equiv_from_equiv}
use Rattle.std.specs.Cmp.Lexicographic.{pointwise, lists_equiv, options_equiv}
use Rattle.std.specs.Option.{option_eq}
use Rattle.std.proofs.Common.{refl}
use mathlib.Core.Bool.{beq}

abbrev pub values_eq : List (Option Bool) → List (Option Bool) → Bool
values_eq = pointwise (option_eq beq)

itself : (a : Bool) → beq a a ≡ true
itself true = refl
itself false = refl

flip : (a b : Bool) → beq a b ≡ beq b a
flip true true = refl
flip true false = refl
flip false true = refl
flip false false = refl

alike : (a b x : Bool) → beq a b ≡ true → beq a x ≡ beq b x
alike true true x e = refl
alike true false x e = cc
alike false true x e = cc
alike false false x e = refl

pub values_equiv : IsEquivalence values_eq
values_equiv = lists_equiv (options_equiv (record { refl = itself; symm = flip; congr = alike }))

pub values_partial_equiv : IsPartialEquivalence values_eq
values_partial_equiv = partial_equiv_from_equiv values_equiv
