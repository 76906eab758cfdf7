use Rattle.unit_slicer.specs.Adding.{IsRootOf}
use Rattle.unit_slicer.specs.Found.{Adds}
use Rattle.unit_slicer.proofs.AddingLaws.{Through}
use Rattle.unit_slicer.proofs.adding.add_roots.Given as goal

-- what those so far lead to is added
abbrev pub invariant-loop-root : goal.invariant-loop-root
invariant-loop-root l = Adds (Through (IsRootOf l.way) l.roots l.root-index) l.initial.found l.found
