use Rattle.std.proofs.Common.{◌≡◌, ℕ}
use Rattle.unit_slicer.specs.Found.{Adds}
use Rattle.unit_slicer.proofs.AddingLaws.{Through}
use Rattle.unit_slicer.proofs.adding.add_numbers.Given as goal

-- those so far are added
abbrev pub invariant-loop-number : goal.invariant-loop-number
invariant-loop-number l = Adds (Through (λ (m n : ℕ). n ≡ m) l.numbers l.number-index) l.initial.found l.found
