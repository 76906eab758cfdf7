use Rattle.std.proofs.Common.{ℕ, ◌<◌, get_or}
use Rattle.std.specs.List.{Contains}
use Rattle.folder_core.specs.declared.node.Touch.{Touch}
use Rattle.folder_memory.proofs.image.first_untouched.Given as goal

-- each choice so far is for a touched path
abbrev pub invariant-loop-place : goal.invariant-loop-place
invariant-loop-place l = (k : ℕ) (d : Touch) → k < l.place → Contains l.touched (get_or l.choice k d).path
