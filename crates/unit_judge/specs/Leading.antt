-- Where requirements lead, by the numbers of units.
use Rattle.std.specs.Prelude.{ℕ, ◌<◌, IsTrue, List, Contains}
use Rattle.ldap_filter.specs.EnvPairs.{EnvPair}
use Rattle.unit_catalog.specs.At.{HasAt}
use Rattle.unit_model.specs.Applies.{filter_true}
use Rattle.unit_model.specs.Matches.{Matches}
use Rattle.unit_model.specs.Slice.{LeadsTo, IsAny}
use Rattle.unit_model.specs.declared.name.UnitName.{UnitName}
use Rattle.unit_model.specs.declared.required.Required.{Required}
use Rattle.unit_model.specs.declared.unit.Unit.{Unit as Package}

-- The requirement has a filter that is true, and doesn't forbid what it matches.
abbrev pub Takes : List EnvPair → Required → Type 0
Takes env r = IsTrue (filter_true env r.filter) × (0 < r.max)

-- The requirement alone leads to the unit of this number.
abbrev pub LeadsToAt : List Package → List EnvPair → Required → ℕ → Type 0
LeadsToAt units env r n = Takes env r × HasAt units (Matches r) n

-- Some requirement of the unit leads to the one of this number.
abbrev pub FollowsAt : List Package → List EnvPair → Package → ℕ → Type 0
FollowsAt units env u n = HasAt units (LeadsTo IsAny env u) n

-- The unit of this number is a root.
abbrev pub IsRootAt : List Package → List UnitName → ℕ → Type 0
IsRootAt units roots n = HasAt units (λ u. Contains roots u.name) n
