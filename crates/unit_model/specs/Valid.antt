-- When units may be installed together.
use Rattle.std.specs.Prelude.{◌≡◌, ◌≢◌, ◌⊎◌, IsTrue, List, map, All, AllPairs, Contains}
use Rattle.ldap_filter.specs.EnvPairs.{EnvPair}
use Rattle.unit_model.specs.Applies.{filter_true}
use Rattle.unit_model.specs.Met.{IsMet}
use Rattle.unit_model.specs.declared.name.UnitName.{UnitName}
use Rattle.unit_model.specs.declared.unit.Unit.{Unit as Package}

abbrev pub names : List Package → List UnitName
names units = map (λ u. u.name) units

-- Two units of one id, of which one is a singleton.
abbrev pub Collide : Package → Package → Type 0
Collide u v = (u.name.id ≡ v.name.id) × (IsTrue u.singleton ⊎ IsTrue v.singleton)

-- The units are a set with distinct names. Each strict root is the name of one, the filter of each is true, each of
-- their requirements is met, and no two collide.
pub record IsValid (units : List Package) (strict : List UnitName) (env : List EnvPair) : Type 0 where
  pub distinct : AllPairs (λ u v. u.name ≢ v.name) units
  pub roots : All (Contains (names units)) strict
  pub apply : All (λ u. IsTrue (filter_true env u.filter)) units
  pub met : All (λ u. All (λ r. IsMet r units env) u.required) units
  pub apart : AllPairs (λ u v. ¬ (Collide u v)) units
