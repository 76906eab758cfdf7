use Rattle.unit_slicer.specs.Adding.{IsOwn}
use Rattle.unit_slicer.specs.Found.{Adds}
use Rattle.unit_slicer.proofs.AddingLaws.{Through}
use Rattle.unit_slicer.proofs.adding.add_each.Given as goal

-- what those so far lead to is added
abbrev pub invariant-loop-number : goal.invariant-loop-number
invariant-loop-number l = Adds (Through (IsOwn l.way) l.numbers l.number-index) l.initial.found l.found
