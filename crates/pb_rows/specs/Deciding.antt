-- Tests on units and names. Each decides a definition: it is true exactly where that holds.
use Rattle.std.specs.Prelude.{◌&&◌, ◌||◌, not, Bool, true, Option, Some, None, List, ℕ}
use Rattle.std.specs.List.{list_any}
use Rattle.std.specs.Ordering.{is_lt, is_eq}
use Rattle.std.specs.Str.{bytes_eq}
use Rattle.osgi_version.specs.VersionOrder.{version_cmp}
use Rattle.osgi_version.specs.declared.range.Ceiling.{Ceiling}
use Rattle.osgi_version.specs.declared.range.Range.{Range}
use Rattle.osgi_version.specs.declared.version.Version.{Version}
use Rattle.unit_model.specs.declared.name.UnitName.{UnitName}
use Rattle.unit_model.specs.declared.provided.Provided.{Provided}
use Rattle.unit_model.specs.declared.required.Required.{Required}
use Rattle.unit_model.specs.declared.unit.Unit.{Unit as Package}

-- both names are one
abbrev pub same_name : UnitName → UnitName → Bool
same_name a b = bytes_eq a.id b.id && is_eq (version_cmp a.version b.version)

-- the first version is below the second, or is it and included
abbrev pub is_up_to : Version → Version → Bool → Bool
is_up_to v bound included = is_lt (version_cmp v bound) || (is_eq (version_cmp v bound) && included)

abbrev pub is_below : Version → Option Ceiling → Bool
is_below v None = true
is_below v (Some c) = is_up_to v c.version c.included

-- the range holds the version
abbrev pub holds_version : Range → Version → Bool
holds_version r v = is_up_to r.floor v r.floor_included && is_below v r.ceiling

-- the capability answers the requirement
abbrev pub answers : Required → Provided → Bool
answers r p = bytes_eq p.namespace r.namespace && (bytes_eq p.name r.name && holds_version r.range p.version)

-- the unit matches the requirement
abbrev pub matches : Required → Package → Bool
matches r u = list_any (answers r) u.provided

-- the unit has the id, and is a singleton
abbrev pub is_single : List ℕ → Package → Bool
is_single id u = bytes_eq u.name.id id && u.singleton

-- the unit has the id, and is none
abbrev pub is_other : List ℕ → Package → Bool
is_other id u = bytes_eq u.name.id id && not u.singleton
