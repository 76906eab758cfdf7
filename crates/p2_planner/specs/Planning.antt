-- What comes of planning.
use Rattle.std.specs.Prelude.{◌⊎◌, ℕ, List, ◌++◌, All, Contains}
use Rattle.ldap_filter.specs.EnvPairs.{EnvPair}
use Rattle.unit_model.specs.Slice.{AreRooted}
use Rattle.unit_model.specs.Valid.{names, IsValid}
use Rattle.unit_model.specs.declared.name.UnitName.{UnitName}
use Rattle.unit_model.specs.declared.unit.Unit.{Unit as Package}
use Rattle.unit_catalog.specs.Order.{AreMembers, units_at}
use Rattle.unit_slicer.specs.Members.{AreOfSlice}
use Rattle.unit_slicer.specs.RootedPart.{IsRootedPart}
use Rattle.unit_slicer.specs.WholeCatalog.{IsPart}
use Rattle.p2_planner.specs.Selecting.{SomeIsValid, IsTooLarge, IsRefuted, IsSpentFor}
use Rattle.p2_planner.specs.Settling.{AreSettled, ComesTo}
use Rattle.deriv_check.specs.declared.derivation.Evidence.{Evidence}
use Rattle.p2_planner.specs.declared.planned.LeftOut.{LeftOut}
use Rattle.p2_planner.specs.declared.planned.Planned.{Planned}
use Rattle.p2_planner.specs.declared.planned.Planned.TheVariants as planned

-- The units are some of the slice, valid for the strict roots and for the optional ones that are kept, and rooted. None
-- is an optional root that is left out. Where the installed units of the slice are valid for the roots that are kept, the
-- selection is the largest rooted part of them.
pub record IsSelection (units : List Package) (slice installed : List ℕ) (strict optional : List UnitName) (env : List EnvPair) (budget : ℕ) (selection : List ℕ) (left : List LeftOut) : Type 0 where
  pub members : AreMembers units selection
  pub among : All (Contains slice) selection
  pub valid_strict : IsValid (units_at units selection) strict env
  pub roots : List UnitName
  pub settled : AreSettled (units_at units slice) env budget strict optional roots left
  pub valid : IsValid (units_at units selection) roots env
  pub left_out : All (λ out. ¬ (Contains (names (units_at units selection)) out.root)) left
  pub rooted : AreRooted (units_at units selection) strict optional env
  pub largest : (held : List ℕ) → IsPart (Contains installed) slice held → IsValid (units_at units held) roots env → IsRootedPart (units_at units held) (strict ++ optional) env (units_at units selection)

-- The budget is spent on the problem of the strict roots, or, where some selection is valid for these, on that of an
-- optional root.
abbrev pub IsSpentPlan : List Package → List UnitName → List UnitName → List EnvPair → ℕ → Evidence → Type 0
IsSpentPlan members strict optional env budget evidence =
    IsSpentFor members strict env budget evidence
    ⊎ (SomeIsValid members strict env × ComesTo (λ roots. ¬ (IsTooLarge members roots env) × IsSpentFor members roots env budget evidence) members env budget strict optional)

-- That there is no selection is said of the strict roots alone.
abbrev pub IsPlanOf : List Package → List ℕ → List ℕ → List UnitName → List UnitName → List EnvPair → ℕ → Planned → Type 0
IsPlanOf units slice installed strict optional env budget (planned.Selection members left) = IsSelection units slice installed strict optional env budget members left
IsPlanOf units slice installed strict optional env budget (planned.NoSelection evidence) = IsRefuted (units_at units slice) strict env budget evidence
IsPlanOf units slice installed strict optional env budget (planned.Spent evidence) = IsSpentPlan (units_at units slice) strict optional env budget evidence

-- The plan is one of the slice of all roots, where the problem of the strict ones isn't too large.
pub record IsPlanned (units : List Package) (installed : List ℕ) (strict optional : List UnitName) (env : List EnvPair) (budget : ℕ) (plan : Planned) : Type 0 where
  pub slice : List ℕ
  pub members : AreMembers units slice
  pub all : AreOfSlice units (strict ++ optional) env slice
  pub few : ¬ (IsTooLarge (units_at units slice) strict env)
  pub answer : IsPlanOf units slice installed strict optional env budget plan

-- The problem of the strict roots has over 4,000,000 terms, or, where it hasn't and some selection is valid for these,
-- that of an optional root has, which is the first that does.
pub record IsProblemTooLarge (units : List Package) (strict optional : List UnitName) (env : List EnvPair) (budget : ℕ) : Type 0 where
  pub slice : List ℕ
  pub members : AreMembers units slice
  pub all : AreOfSlice units (strict ++ optional) env slice
  pub many :
      IsTooLarge (units_at units slice) strict env
      ⊎ (¬ (IsTooLarge (units_at units slice) strict env) × SomeIsValid (units_at units slice) strict env
      × ComesTo (λ roots. IsTooLarge (units_at units slice) roots env) (units_at units slice) env budget strict optional)
