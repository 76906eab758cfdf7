use Rattle.std.specs.Prelude.{◌≡◌, ℕ, ◌<◌, ◌≤◌, ◌⊎◌, List, Option, Bool, None, length, All, Contains}
use Rattle.pb_core.specs.Values.{value_of}

-- each variable that has a value is on the trail
pub record Covers (values : List (Option Bool)) (trail : List ℕ) : Type 0 where
  pub each : (v : ℕ) → (value_of values v ≡ None) ⊎ Contains trail v
  pub among : All (λ v. (0 < v) × (v ≤ length values)) trail
