-- The units of the slice, by their numbers.
use Rattle.std.specs.Prelude.{◌≢◌, ℕ, ◌<◌, List, length, All, AllPairs, Contains}
use Rattle.ldap_filter.specs.EnvPairs.{EnvPair}
use Rattle.unit_model.specs.Slice.{IsInSlice}
use Rattle.unit_model.specs.declared.name.UnitName.{UnitName}
use Rattle.unit_model.specs.declared.unit.Unit.{Unit as Package}
use Rattle.unit_catalog.specs.At.{HasAt}

-- Exactly the numbers of the units that have the property.
pub record AreAllOf (units : List Package) (P : Package → Type 0) (numbers : List ℕ) : Type 0 where
  pub each : All (HasAt units P) numbers
  pub every : (n : ℕ) → HasAt units P n → Contains numbers n

-- Exactly the numbers of the units in the slice.
abbrev pub AreOfSlice : List Package → List UnitName → List EnvPair → List ℕ → Type 0
AreOfSlice units roots env numbers = AreAllOf units (IsInSlice units roots env) numbers

-- There are more than this many units in the slice.
pub record HasMoreThan (limit : ℕ) (units : List Package) (roots : List UnitName) (env : List EnvPair) : Type 0 where
  pub numbers : List ℕ
  pub distinct : AllPairs (λ m n. m ≢ n) numbers
  pub each : All (HasAt units (IsInSlice units roots env)) numbers
  pub many : limit < length numbers
