-- The problem to select members.
use Rattle.std.specs.Prelude.{◌≡◌, List, map}
use Rattle.ldap_filter.specs.EnvPairs.{EnvPair}
use Rattle.pb_core.specs.declared.constraint.Problem.{Problem}
use Rattle.unit_model.specs.declared.name.UnitName.{UnitName}
use Rattle.unit_model.specs.declared.unit.Unit.{Unit as Package}
use Rattle.pb_rows.specs.Normalising.{AreNormalised}
use Rattle.pb_rows.specs.Rows.{label, rows}

-- Each member's variable has its label, `id/version`. The constraints are the normal forms of the rows that roots,
-- requirements and singletons ask for, in this order, and a row that every assignment satisfies has none.
pub record IsProblem (members : List Package) (roots : List UnitName) (env : List EnvPair) (p : Problem) : Type 0 where
  pub labels : p.labels ≡ map (λ u. label u.name) members
  pub constraints : AreNormalised (rows members roots env) p.constraints
