use Rattle.std.proofs.Common.{◌≡◌, ℕ, ◌<◌, ◌≤◌}
use Rattle.pb_encode.specs.Places.{id_at}
use Rattle.pb_encode.specs.UnitsOf.{units_of}
use Rattle.pb_encode.proofs.singletons.end_of_id.Given as goal

-- the members so far have the id
abbrev pub invariant-loop-to : goal.invariant-loop-to
invariant-loop-to l = (k : ℕ) → l.from ≤ k → k < l.to → id_at (units_of l.members) k ≡ id_at (units_of l.members) l.from
