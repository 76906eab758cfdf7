-- Capabilities that lead to a number.
use Rattle.std.specs.Prelude.{ℕ, List, All, Contains}
use Rattle.unit_model.specs.declared.provided.Provided.{Provided}
use Rattle.unit_catalog.specs.Keys.{pair_key}
use Rattle.unit_catalog.specs.Listed.{listed}
use Rattle.unit_catalog.specs.declared.index.Index.{Index}

abbrev pub AreEntered : Index → List Provided → ℕ → Type 0
AreEntered index provided n = All (λ p. Contains (listed index (pair_key p.namespace p.name)) n) provided
