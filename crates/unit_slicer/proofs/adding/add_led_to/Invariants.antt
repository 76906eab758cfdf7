use Rattle.unit_slicer.specs.Adding.{IsProvider}
use Rattle.unit_slicer.specs.Found.{Adds}
use Rattle.unit_slicer.proofs.AddingLaws.{Through}
use Rattle.unit_slicer.proofs.adding.add_led_to.Given as goal

-- what those so far lead to is added
abbrev pub invariant-loop-required : goal.invariant-loop-required
invariant-loop-required l = Adds (Through (IsProvider l.way) l.unit.required l.required-index) l.initial.found l.found
