use Rattle.std.proofs.Common.{ℕ, ◌<◌, slice_index_or}
use Rattle.std.specs.Prelude.{Contains}
use Rattle.unit_model.specs.Valid.{names}
use Rattle.unit_model.specs.declared.name.UnitName.{UnitName}
use Rattle.unit_judge.proofs.members.missing_root.Given as goal

-- each root so far is a member
abbrev pub invariant-loop-root : goal.invariant-loop-root
invariant-loop-root l = (k : ℕ) (d : UnitName) → k < l.root-index → Contains (names l.units) (slice_index_or l.roots k d)
