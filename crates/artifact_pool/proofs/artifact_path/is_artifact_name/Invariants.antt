use Rattle.std.proofs.Common.{ℕ, ◌<◌}
use Rattle.artifact_pool.specs.ArtifactPath.{IsPartedAt}
use Rattle.artifact_pool.proofs.artifact_path.is_artifact_name.Given as goal

-- no place before this one parts the name
abbrev pub invariant-loop-place : goal.invariant-loop-place
invariant-loop-place l = (at : ℕ) → at < l.place → ¬ (IsPartedAt l.name at)
