use Rattle.std.proofs.Common.{◌≡◌, ℕ, ◌-◌, length}
use Rattle.std.specs.Prelude.{All, Contains}
use Rattle.unit_slicer.specs.Adding.{IsRoot, Reaches}
use Rattle.unit_slicer.proofs.SliceLaws.{IsDone}
use Rattle.unit_slicer.proofs.searching.find_all.Given as goal

-- All that was found is reached, the roots are found, and what was worked off leads to nothing else.
abbrev pub invariant-loop-number : goal.invariant-loop-number
invariant-loop-number l = record {
  units : l.found.units ≡ length l.way.catalog.now;
  each : All (Reaches l.way l.roots) l.found.found;
  begun : (n : ℕ) → IsRoot l.way l.roots n → Contains l.found.found n;
  done : IsDone l.way l.found.found l.place;
}

abbrev pub decreases-loop-number : goal.decreases-loop-number
decreases-loop-number l = 8192 - l.place
