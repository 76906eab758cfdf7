use Rattle.std.proofs.Common.{◌≡◌, ℕ, ◌+◌, ◌<◌, pos, ◌+ℤ◌, length, take, get_or}
use Rattle.pb_core.specs.Shares.{share_at}
use Rattle.pb_core.proofs.occurrences.raise.Given as goal

abbrev pub invariant-loop-occurrence : goal.invariant-loop-occurrence
invariant-loop-occurrence g l =
    ((k : ℕ) → k < length l.initial.slacks → get_or l.slacks k (pos 0) ≡ get_or l.initial.slacks k (pos 0) +ℤ pos (share_at (k + 1) (take l.occurrence-index l.occurrences)))
    × (l.steps ≡ l.initial.steps + l.occurrence-index)
