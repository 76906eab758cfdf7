-- The units that a requirement is met by.
use Rattle.std.specs.Prelude.{ℕ, ◌<◌, List, All, AllPairs, Contains}
use Rattle.unit_model.specs.Matches.{Matches}
use Rattle.unit_model.specs.declared.required.Required.{Required}
use Rattle.unit_model.specs.declared.unit.Unit.{Unit as Package}
use Rattle.unit_catalog.specs.At.{HasAt}

-- Exactly the numbers of the units that match, rising.
pub record AreProviders (units : List Package) (r : Required) (numbers : List ℕ) : Type 0 where
  pub rising : AllPairs (λ m n. m < n) numbers
  pub each : All (HasAt units (Matches r)) numbers
  pub every : (n : ℕ) → HasAt units (Matches r) n → Contains numbers n
