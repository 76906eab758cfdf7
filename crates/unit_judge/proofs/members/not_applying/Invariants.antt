use Rattle.std.proofs.Common.{ℕ, ◌<◌, slice_index_or}
use Rattle.unit_model.specs.declared.unit.Unit.{Unit as Package}
use Rattle.unit_judge.specs.Judged.{DoesApply}
use Rattle.unit_judge.proofs.members.not_applying.Given as goal

-- each unit so far applies
abbrev pub invariant-loop-unit : goal.invariant-loop-unit
invariant-loop-unit l = (k : ℕ) (d : Package) → k < l.unit-index → DoesApply l.env (slice_index_or l.units k d)
