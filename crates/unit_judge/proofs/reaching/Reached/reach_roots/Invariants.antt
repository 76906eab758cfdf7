use Rattle.std.proofs.Common.{◌≡◌, ℕ, ◌<◌, slice_index_or}
use Rattle.unit_catalog.specs.At.{HasAt}
use Rattle.unit_model.specs.declared.name.UnitName.{UnitName}
use Rattle.unit_judge.specs.Leading.{IsRootAt}
use Rattle.unit_judge.specs.Reaching.{Marks, HasMarked}
use Rattle.unit_judge.proofs.reaching.Reached.reach_roots.Given as goal

-- the roots so far are marked
abbrev pub invariant-loop-root : goal.invariant-loop-root
invariant-loop-root l = record {
  marks : Marks (IsRootAt l.units l.roots) l.initial.self l.self;
  has : (k : ℕ) (d : UnitName) → k < l.root-index → HasMarked (HasAt l.units (λ u. u.name ≡ slice_index_or l.roots k d)) l.self;
}
