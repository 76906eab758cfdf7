use Rattle.std.proofs.Common.{◌≡◌, ℕ, ◌<◌, slice_index_or}
use Rattle.unit_model.specs.Matches.{Answers}
use Rattle.unit_model.specs.declared.provided.Provided.{Provided}
use Rattle.unit_model.proofs.matching.matches.Given as goal

-- no capability so far answers
abbrev pub invariant-loop-provided : goal.invariant-loop-provided
invariant-loop-provided l =
    (k : ℕ) (x : Provided) → k < l.provided-index → slice_index_or l.unit.provided k x ≡ x → Answers l.required x → ⊥
