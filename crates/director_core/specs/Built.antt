use Rattle.std.specs.Prelude.{◌≡◌, false, [], None}
use Rattle.unit_model.specs.declared.unit.Unit.{Unit}

-- The unit has no part beyond its name, its update and its provided capabilities.
pub record IsBuilt (unit : Unit) : Type 0 where
  pub singleton : unit.singleton ≡ false
  pub filter : unit.filter ≡ None
  pub touchpoint : unit.touchpoint ≡ None
  pub properties : unit.properties ≡ []
  pub required : unit.required ≡ []
  pub artifacts : unit.artifacts ≡ []
  pub phases : unit.phases ≡ []
