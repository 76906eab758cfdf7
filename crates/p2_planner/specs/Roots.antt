-- Lists of roots.
use Rattle.std.specs.Prelude.{◌≡◌, List, ◌∷◌, ◌++◌, AllPairs}
use Rattle.std.specs.List.{filter}
use Rattle.std.specs.Ordering.{is_lt, is_gt}
use Rattle.std.specs.declared.cmp.Ordering.TheVariants.{Less}
use Rattle.unit_model.specs.declared.name.UnitName.{UnitName}
use Rattle.unit_catalog.specs.Order.{by_id}

-- The names rise, so none stands twice.
abbrev pub AreRising : List UnitName → Type 0
AreRising names = AllPairs (λ a b. by_id a b ≡ Less) names

-- those that come before this one
abbrev pub below : UnitName → List UnitName → List UnitName
below name names = filter (λ n. is_lt (by_id n name)) names

-- those that come behind this one
abbrev pub above : UnitName → List UnitName → List UnitName
above name names = filter (λ n. is_gt (by_id n name)) names

-- rising names with this one in its place, where it stands once
abbrev pub with_name : UnitName → List UnitName → List UnitName
with_name name names = below name names ++ name ∷ above name names
