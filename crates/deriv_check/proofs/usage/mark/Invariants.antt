use Rattle.std.proofs.Common.{ℕ, take, Contains, IsTrue, ◌↔◌, ◌⊎◌}
use Rattle.deriv_check.specs.Marks.{is_marked}
use Rattle.deriv_check.proofs.usage.mark.Given as goal

abbrev pub invariant-loop-number : goal.invariant-loop-number
invariant-loop-number l =
    (n : ℕ) → IsTrue (is_marked l.marks n) ↔ (IsTrue (is_marked l.fn.marks n) ⊎ Contains (take l.number-index l.numbers) n)
