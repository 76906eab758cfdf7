-- Which variables are tried as true first.
use Rattle.std.specs.Prelude.{ℕ, List, All, Contains}
use Rattle.pb_encode.specs.Places.{IsVariableOfNumber, IsVariableAmong}

-- Exactly the variables of the slice's numbers that are installed.
pub record ArePreferred (slice installed variables : List ℕ) : Type 0 where
  pub each : All (IsVariableAmong slice installed) variables
  pub every : All (λ n. (v : ℕ) → IsVariableOfNumber slice n v → Contains variables v) installed
