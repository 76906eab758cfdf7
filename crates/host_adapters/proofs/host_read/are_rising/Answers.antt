-- The check of each two neighbours tells whether the first is before the second.
use Rattle.std.proofs.Common.{rules, ◌≡◌, ℕ, Bool, true, false, List, [], IsTrue, refl}
use Rattle.std.proofs.lemmas.List.Sorted.{answers_always}
use Rattle.std.specs.Ordering.{nat_cmp, is_lt}
use Rattle.std.specs.Cmp.Lexicographic.{slice_cmp}
use Rattle.std.specs.List.{IsAllAdjacentAnswer}
use Rattle.std.specs.declared.cmp.Ordering.{Ordering}
use Rattle.std.specs.declared.cmp.Ordering.TheVariants.{Less, Equal, Greater}
use Rattle.folder_core.specs.Name.{AreRising}
use Rattle.host_adapters.proofs.host_read.are_rising.Goals as goal

less_from : (o : Ordering) → true ≡ is_lt o → o ≡ Less
less_from Less e = refl
less_from Equal e = cc
less_from Greater e = cc

not_less_from : (o : Ordering) → false ≡ is_lt o → o ≡ Less → ⊥
not_less_from Less e l = cc
not_less_from Equal e l = cc
not_less_from Greater e l = cc

AreRising-from_answer : (xs : List (List ℕ)) (r : Bool) → IsAllAdjacentAnswer (λ x y b. b ≡ is_lt (slice_cmp nat_cmp x y)) xs r → (IsTrue r → AreRising xs) × (AreRising xs → IsTrue r)
AreRising-from_answer xs true h = (λ _ k d lt. less_from _ (h k d lt), λ _. refl)
AreRising-from_answer xs false h =
    (λ t. let never : ⊥ = cc in absurd never, λ rising. absurd (not_less_from _ (h.2 []) (rising h.0 [] h.1)))

pub returns : goal.returns
returns c = AreRising-from_answer _ _ (c.is_sorted_by.ensures.cases (λ a b. is_lt (slice_cmp nat_cmp a b)) (answers_always _ _ _ (λ f a r g h. search rules)))
