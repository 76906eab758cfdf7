-- Which rows are made in which case.
use Rattle.std.proofs.Common.{◌≡◌, ℕ, ◌-◌, ◌<◌, ◌≤◌, true, false, eqb, leb, List, [], ◌∷◌, length, map, pos, refl, arith}
use Rattle.std.proofs.lemmas.Bool.Decides.{nat_tests}
use Rattle.pb_core.specs.declared.constraint.Origin.TheVariants as origin
use Rattle.pb_rows.specs.Rows.{term, positives, negatives, need_rows, most_rows, beside, apart_rows}

pub need_none : (v row min : ℕ) (matching : List ℕ) → min ≡ 0 → [] ≡ need_rows v row min matching
need_none v row min matching e = rw e refl

pub need_some : (v row min : ℕ) (matching : List ℕ) → (min ≡ 0 → ⊥) → record { terms = term min false v ∷ positives matching; degree = pos min; origin = origin.Need v row } ∷ [] ≡ need_rows v row min matching
need_some v row min matching some = let no : eqb min 0 ≡ false = grind (arith, nat_tests) in rw no refl

pub most_none : (v row max : ℕ) (matching : List ℕ) → length matching ≤ max → [] ≡ most_rows v row max matching
most_none v row max matching few = let all : leb (length matching) max ≡ true = grind (arith, nat_tests) in rw all refl

pub most_some : (v row max : ℕ) (matching : List ℕ) → max < length matching → record { terms = term (length matching - max) false v ∷ negatives matching; degree = pos (length matching - max); origin = origin.Most v row } ∷ [] ≡ most_rows v row max matching
most_some v row max matching many = let some : leb (length matching) max ≡ false = grind (arith, nat_tests) in rw some refl

pub alone_none : (id singles : List ℕ) → length singles ≤ 1 → [] ≡ apart_rows id singles []
alone_none id singles few = let all : leb (length singles) 1 ≡ true = grind (arith, nat_tests) in rw all refl

pub alone_some : (id singles : List ℕ) → 1 < length singles → record { terms = negatives singles; degree = pos (length singles - 1); origin = origin.One id } ∷ [] ≡ apart_rows id singles []
alone_some id singles many = let some : leb (length singles) 1 ≡ false = grind (arith, nat_tests) in rw some refl

pub apart_none : (id singles others : List ℕ) → length singles ≡ 0 → [] ≡ apart_rows id singles others
apart_none id singles [] e = alone_none id singles (omega arith)
apart_none id singles (other ∷ others) e = let all : eqb (length singles) 0 ≡ true = grind (arith, nat_tests) in rw all refl

pub apart_some : (id singles others : List ℕ) → 0 < length singles → 0 < length others → map (beside id singles) others ≡ apart_rows id singles others
apart_some id singles [] h g = absurd (omega arith)
apart_some id singles (other ∷ others) h g = let some : eqb (length singles) 0 ≡ false = grind (arith, nat_tests) in rw some refl
