-- The part of units that their roots ask for.
use Rattle.std.specs.Prelude.{List, All, Contains}
use Rattle.ldap_filter.specs.EnvPairs.{EnvPair}
use Rattle.unit_model.specs.Slice.{HasChain, IsAny}
use Rattle.unit_model.specs.Valid.{IsValid}
use Rattle.unit_model.specs.declared.name.UnitName.{UnitName}
use Rattle.unit_model.specs.declared.unit.Unit.{Unit as Package}
use Rattle.unit_slicer.specs.WholeCatalog.{IsPart}

-- Requirements among the units themselves, greedy or not, lead to this one from a root.
abbrev pub IsRootedIn : List Package → List UnitName → List EnvPair → Package → Type 0
IsRootedIn units roots env = HasChain units IsAny roots env

-- Exactly the rooted units, in their order. They are rooted among themselves, they have all units of any other part
-- that is, and they are valid for any of the roots for which all the units are.
pub record IsRootedPart (units : List Package) (roots : List UnitName) (env : List EnvPair) (part : List Package) : Type 0 where
  pub exact : IsPart (IsRootedIn units roots env) units part
  pub rooted : All (IsRootedIn part roots env) part
  pub largest : (others : List Package) → All (Contains units) others → All (IsRootedIn others roots env) others → All (Contains part) others
  pub valid : (some : List UnitName) → All (Contains roots) some → IsValid units some env → IsValid part some env
