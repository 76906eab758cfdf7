use Rattle.std.proofs.Common.{ℕ, ◌<◌, slice_index_or}
use Rattle.unit_model.specs.declared.unit.Unit.{Unit as Package}
use Rattle.unit_judge.specs.Judged.{IsServed}
use Rattle.unit_judge.proofs.needs.unserved.Given as goal

-- each requirement of each unit so far is met
abbrev pub invariant-loop-unit : goal.invariant-loop-unit
invariant-loop-unit l = (k : ℕ) (d : Package) → k < l.unit-index → IsServed l.index l.env (slice_index_or l.units k d)
