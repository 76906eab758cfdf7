use Rattle.std.proofs.Common.{ℕ, ◌<◌, slice_index_or}
use Rattle.unit_model.specs.Met.{IsMet}
use Rattle.unit_model.specs.declared.required.Required.{Required}
use Rattle.unit_judge.proofs.needs.unmet.Given as goal

-- each requirement so far is met
abbrev pub invariant-loop-place : goal.invariant-loop-place
invariant-loop-place l = (k : ℕ) (d : Required) → k < l.place → IsMet (slice_index_or l.required k d) l.index l.env
