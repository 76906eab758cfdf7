use Rattle.std.proofs.Common.{ℕ, ◌<◌, Contains, IsTrue, ◌↔◌}
use Rattle.std.specs.List.Sorted.{IsStrictlyIncreasing}
use Rattle.deriv_check.specs.Marks.{is_marked}
use Rattle.deriv_check.proofs.usage.marked_up_to.Given as goal

abbrev pub invariant-loop-number : goal.invariant-loop-number
invariant-loop-number l =
    ((n : ℕ) → Contains l.found n ↔ ((0 < n) × (n < l.number) × IsTrue (is_marked l.marks n))) × IsStrictlyIncreasing l.found
