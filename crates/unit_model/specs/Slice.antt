-- What chains of requirements lead to from roots.
use Rattle.std.specs.Prelude.{ℕ, ◌<◌, ⊤, IsTrue, List, ◌++◌, Any, All, Contains}
use Rattle.ldap_filter.specs.EnvPairs.{EnvPair}
use Rattle.unit_model.specs.Applies.{filter_true}
use Rattle.unit_model.specs.Matches.{Matches}
use Rattle.unit_model.specs.declared.name.UnitName.{UnitName}
use Rattle.unit_model.specs.declared.required.Required.{Required}
use Rattle.unit_model.specs.declared.unit.Unit.{Unit as Package}

-- The second unit matches some requirement of the first that is allowed, has a filter that is true, and doesn't
-- forbid what it matches.
abbrev pub LeadsTo : (Required → Type 0) → List EnvPair → Package → Package → Type 0
LeadsTo Allowed env u v =
    Any (λ r. Allowed r × IsTrue (filter_true env r.filter) × (0 < r.max) × Matches r v) u.required

-- A chain of the units, each with a filter that is true, from one whose name is a root to this one.
pub data HasChain (units : List Package) (Allowed : Required → Type 0) (roots : List UnitName) (env : List EnvPair) : Package → Type 0 where
  Begins : (u : Package) → Contains units u → IsTrue (filter_true env u.filter) → Contains roots u.name → HasChain units Allowed roots env u
  GoesOn : (u v : Package) → HasChain units Allowed roots env u → Contains units v → IsTrue (filter_true env v.filter) → LeadsTo Allowed env u v → HasChain units Allowed roots env v

abbrev pub IsGreedy : Required → Type 0
IsGreedy r = IsTrue r.greedy

abbrev pub IsAny : Required → Type 0
IsAny r = ⊤

-- The unit is one that a selection for these roots may be made of: greedy requirements alone lead to it.
abbrev pub IsInSlice : List Package → List UnitName → List EnvPair → Package → Type 0
IsInSlice units roots env = HasChain units IsGreedy roots env

-- Requirements among the units themselves, greedy or not, lead to each of them from a strict root or from an optional
-- root that is one of them.
abbrev pub AreRooted : List Package → List UnitName → List UnitName → List EnvPair → Type 0
AreRooted units strict optional env = All (HasChain units IsAny (strict ++ optional) env) units
