-- What a search finds.
use Rattle.std.specs.Prelude.{◌≢◌, ℕ, ◌<◌, List, length, All, AllPairs, Contains}
use Rattle.unit_model.specs.declared.name.UnitName.{UnitName}
use Rattle.unit_slicer.specs.Adding.{Reaches}
use Rattle.unit_slicer.specs.declared.way.Way.{Way}

-- Exactly the numbers that are reached.
pub record AreReached (way : Way) (roots : List UnitName) (numbers : List ℕ) : Type 0 where
  pub each : All (Reaches way roots) numbers
  pub every : (n : ℕ) → Reaches way roots n → Contains numbers n

-- More numbers than this are reached.
pub record ReachesOver (limit : ℕ) (way : Way) (roots : List UnitName) : Type 0 where
  pub numbers : List ℕ
  pub distinct : AllPairs (λ m n. m ≢ n) numbers
  pub each : All (Reaches way roots) numbers
  pub many : limit < length numbers
