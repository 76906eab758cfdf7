-- Which versions a range holds (OSGi Core, "Version Ranges").
use Rattle.std.specs.Prelude.{◌≡◌, ◌⊎◌, IsTrue, IfSome}
use Rattle.std.specs.declared.cmp.Ordering.TheVariants.{Less}
use Rattle.osgi_version.specs.VersionOrder.{version_cmp}
use Rattle.osgi_version.specs.declared.version.Version.{Version}
use Rattle.osgi_version.specs.declared.range.Ceiling.{Ceiling}
use Rattle.osgi_version.specs.declared.range.Range.{Range}

-- The floor is below the version, or is this version and included.
abbrev pub IsAboveFloor : Range → Version → Type 0
IsAboveFloor r v = (version_cmp r.floor v ≡ Less) ⊎ ((r.floor ≡ v) × IsTrue r.floor_included)

-- The version is below the ceiling, or is this version and included.
abbrev pub IsBelowCeiling : Version → Ceiling → Type 0
IsBelowCeiling v c = (version_cmp v c.version ≡ Less) ⊎ ((v ≡ c.version) × IsTrue c.included)

-- A range that no version is above the floor and below the ceiling of holds nothing.
pub record Holds (r : Range) (v : Version) : Type 0 where
  pub floor : IsAboveFloor r v
  pub ceiling : IfSome r.ceiling (IsBelowCeiling v)
