-- Numbers of units in the order of their names.
use Rattle.std.specs.Prelude.{ℕ, Option, List, slice_get}
use Rattle.std.specs.Option.{option_cmp, option_map}
use Rattle.std.specs.declared.cmp.Ordering.{Ordering}
use Rattle.unit_model.specs.declared.name.UnitName.{UnitName}
use Rattle.unit_model.specs.declared.unit.Unit.{Unit as Package}
use Rattle.unit_catalog.specs.Order.{by_id}

abbrev pub name_at : List Package → ℕ → Option UnitName
name_at units n = option_map (λ u. u.name) (slice_get units n)

-- numbers by the names of their units, and before them all that are of no unit
abbrev pub number_cmp : List Package → ℕ → ℕ → Ordering
number_cmp units m n = option_cmp by_id (name_at units m) (name_at units n)
