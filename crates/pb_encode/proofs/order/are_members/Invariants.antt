use Rattle.std.proofs.Common.{ℕ, ◌<◌}
use Rattle.pb_encode.specs.InPlace.{IsInPlace}
use Rattle.pb_encode.proofs.order.are_members.Given as goal

-- the numbers so far are in place
abbrev pub invariant-loop-place : goal.invariant-loop-place
invariant-loop-place l = (k : ℕ) → k < l.place → IsInPlace l.catalog l.numbers k
