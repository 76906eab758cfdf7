-- Which variables are open, and which are wanted.
use Rattle.std.proofs.Common.{◌≡◌, ℕ, ◌<◌, ◌≤◌, Bool, List, length, Option, Some, None, IsSome, is_none, refl, ap}
use Rattle.pb_core.specs.Values.{value_of}
use Rattle.pb_solver.specs.Values.{IsUnassigned}

pub assigned_else : (values : List (Option Bool)) (v : ℕ) → 0 < v → v ≤ length values → (IsUnassigned values v → ⊥) → IsSome (value_of values v)
assigned_else values v some most free = by (value_of values v) refl
  where
    by : (o : Option Bool) → value_of values v ≡ o → IsSome o
    by None e = absurd (free (record { from_one = some; within = most; is_open = ap (λ (o : Option Bool). is_none o) e }))
    by (Some b) e = refl
