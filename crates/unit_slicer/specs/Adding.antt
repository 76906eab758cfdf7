-- What a unit, a requirement and a root lead to, by number.
use Rattle.std.specs.Prelude.{◌≡◌, ℕ, ◌<◌, IsTrue, List, Contains}
use Rattle.ldap_filter.specs.EnvPairs.{EnvPair}
use Rattle.unit_model.specs.Applies.{filter_true}
use Rattle.unit_model.specs.Matches.{Matches}
use Rattle.unit_model.specs.Slice.{LeadsTo}
use Rattle.unit_model.specs.declared.name.UnitName.{UnitName}
use Rattle.unit_model.specs.declared.required.Required.{Required}
use Rattle.unit_model.specs.declared.unit.Unit.{Unit as Package}
use Rattle.unit_catalog.specs.At.{HasAt}
use Rattle.unit_slicer.specs.Way.{IsAmong, MayLead}
use Rattle.unit_slicer.specs.declared.way.Way.{Way}

abbrev pub Applies : List EnvPair → Package → Type 0
Applies env u = IsTrue (filter_true env u.filter)

-- What matches the requirement is found.
abbrev pub IsFollowed : Way → Required → Type 0
IsFollowed way r = MayLead way.links r × IsTrue (filter_true way.env.now r.filter) × (0 < r.max)

-- The unit of this number may be found, and has the property.
abbrev pub MayFind : Way → (Package → Type 0) → ℕ → Type 0
MayFind way P n = IsAmong way.among n × HasAt way.catalog.now (λ u. P u × Applies way.env.now u) n

-- This number, where its unit may be found.
abbrev pub IsOwn : Way → ℕ → ℕ → Type 0
IsOwn way m n = (n ≡ m) × IsAmong way.among n × HasAt way.catalog.now (Applies way.env.now) n

abbrev pub IsRootOf : Way → UnitName → ℕ → Type 0
IsRootOf way root n = MayFind way (λ u. u.name ≡ root) n

abbrev pub IsRoot : Way → List UnitName → ℕ → Type 0
IsRoot way roots n = MayFind way (λ u. Contains roots u.name) n

abbrev pub IsProvider : Way → Required → ℕ → Type 0
IsProvider way r n = IsFollowed way r × MayFind way (Matches r) n

-- The unit leads to that of the number.
abbrev pub IsLedTo : Way → Package → ℕ → Type 0
IsLedTo way u n = MayFind way (LeadsTo (MayLead way.links) way.env.now u) n

-- The unit of the first number leads to that of the second.
abbrev pub IsNext : Way → ℕ → ℕ → Type 0
IsNext way m n = HasAt way.catalog.now (λ u. IsLedTo way u n) m

-- Roots, and what found units lead to, are reached.
pub data Reaches (way : Way) (roots : List UnitName) : ℕ → Type 0 where
  FromRoot : (n : ℕ) → IsRoot way roots n → Reaches way roots n
  FromUnit : (m n : ℕ) → Reaches way roots m → IsNext way m n → Reaches way roots n
