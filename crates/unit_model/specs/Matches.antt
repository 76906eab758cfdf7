-- When a unit is what a requirement asks for.
use Rattle.std.specs.Prelude.{◌≡◌, Any}
use Rattle.osgi_version.specs.Holds.{Holds}
use Rattle.unit_model.specs.declared.provided.Provided.{Provided}
use Rattle.unit_model.specs.declared.required.Required.{Required}
use Rattle.unit_model.specs.declared.unit.Unit.{Unit as Package}

-- The capability has the namespace and the name that are asked for, and a version in the range.
pub record Answers (r : Required) (p : Provided) : Type 0 where
  pub namespace : p.namespace ≡ r.namespace
  pub name : p.name ≡ r.name
  pub version : Holds r.range p.version

-- Some capability that the unit provides answers the requirement.
abbrev pub Matches : Required → Package → Type 0
Matches r u = Any (Answers r) u.provided
