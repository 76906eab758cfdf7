use Rattle.std.proofs.Common.{ℕ, ◌<◌, slice_index_or}
use Rattle.unit_model.specs.declared.required.Required.{Required}
use Rattle.unit_judge.specs.Leading.{LeadsToAt, FollowsAt}
use Rattle.unit_judge.specs.Reaching.{Marks, HasMarked}
use Rattle.unit_judge.proofs.reaching.Reached.follow.Given as goal

-- what the requirements so far lead to is marked
abbrev pub invariant-loop-required : goal.invariant-loop-required
invariant-loop-required l = record {
  marks : Marks (FollowsAt l.index l.env l.unit) l.initial.self l.self;
  has : (k : ℕ) (d : Required) → k < l.required-index → HasMarked (LeadsToAt l.index l.env (slice_index_or l.unit.required k d)) l.self;
}
