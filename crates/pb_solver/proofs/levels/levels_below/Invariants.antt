use Rattle.std.proofs.Common.{ℕ, ◌<◌, ◌≤◌, ◌-◌, length, get_or}
use Rattle.pb_solver.proofs.levels.levels_below.Given as goal

abbrev pub invariant-loop-count : goal.invariant-loop-count
invariant-loop-count l = record {
  within : l.count ≤ length l.starts;
  below : (i : ℕ) → i < l.count → get_or l.starts i 0 < l.floor;
}

abbrev pub decreases-loop-count : goal.decreases-loop-count
decreases-loop-count l = length l.starts - l.count
