-- What an attempt to select members comes to, and what follows for the optional roots.
use Rattle.std.specs.Prelude.{◌≡◌, ◌⊎◌, ℕ, Bool, Option, Some, None, List, [], ◌∷◌, ◌++◌, All, Contains}
use Rattle.unit_model.specs.Valid.{IsValid}
use Rattle.unit_model.specs.declared.name.UnitName.{UnitName}
use Rattle.unit_catalog.specs.Order.{AreMembers, units_at}
use Rattle.unit_slicer.specs.RootedPart.{IsRootedPart}
use Rattle.pb_core.specs.declared.constraint.Problem.{Problem}
use Rattle.deriv_check.specs.declared.derivation.Evidence.{Evidence}
use Rattle.pb_solver.specs.Values.{truths}
use Rattle.pb_solver.specs.Wanted.{is_wanted}
use Rattle.pb_solver.specs.declared.answer.Answer.{Answer}
use Rattle.pb_solver.specs.declared.answer.Answer.TheVariants as answer
use Rattle.p2_planner.specs.Selecting.{picked, SomeIsValid, IsTooLarge, IsRefuted, IsSpentFor}
use Rattle.p2_planner.specs.Settling.{AreSettled, IsLeftOut, ComesTo}
use Rattle.p2_planner.specs.declared.ask.Ask.{Ask}
use Rattle.p2_planner.specs.declared.attempt.Attempt.{Attempt}
use Rattle.p2_planner.specs.declared.attempt.Attempt.TheVariants as attempt
use Rattle.p2_planner.specs.declared.planned.LeftOut.{LeftOut}
use Rattle.p2_planner.specs.declared.planned.Planned.{Planned}
use Rattle.p2_planner.specs.declared.planned.Planned.TheVariants as planned
use Rattle.p2_planner.specs.declared.settling.Settled.{Settled}

-- what a solver's answer to the problem means for the members
abbrev pub concluded : List ℕ → Problem → Answer → Attempt
concluded slice problem (answer.Model values) = attempt.Fits (picked (truths values) slice)
concluded slice problem (answer.Refuted derivation) = attempt.Refuted (record { problem = problem; derivation = derivation })
concluded slice problem (answer.Spent derivation) = attempt.Spent (record { problem = problem; derivation = derivation })

-- The members are some of the slice and valid for the roots, and they are those preferred where these are valid.
pub record IsFitting (ask : Ask) (roots : List UnitName) (chosen : List ℕ) : Type 0 where
  pub members : AreMembers ask.catalog.now chosen
  pub full : ℕ → Bool
  pub picked_by : chosen ≡ picked full ask.slice.now
  pub among : All (Contains ask.slice.now) chosen
  pub valid : IsValid (units_at ask.catalog.now chosen) roots ask.env.now
  pub preferred : IsValid (units_at ask.catalog.now (picked (is_wanted ask.preferred.now) ask.slice.now)) roots ask.env.now → chosen ≡ picked (is_wanted ask.preferred.now) ask.slice.now

abbrev pub IsAttempt : Ask → List UnitName → Attempt → Type 0
IsAttempt ask roots (attempt.Fits members) = IsFitting ask roots members
IsAttempt ask roots (attempt.Refuted evidence) = IsRefuted (units_at ask.catalog.now ask.slice.now) roots ask.env.now ask.budget evidence
IsAttempt ask roots (attempt.Spent evidence) = IsSpentFor (units_at ask.catalog.now ask.slice.now) roots ask.env.now ask.budget evidence

-- ---- one optional root

abbrev pub IsTooLargeFor : Ask → List UnitName → Type 0
IsTooLargeFor ask roots = IsTooLarge (units_at ask.catalog.now ask.slice.now) roots ask.env.now

-- The root is one from now on, and the members are valid for it and the roots before.
pub record IsKept (ask : Ask) (tried : List UnitName) (old new : Settled) : Type 0 where
  pub roots : new.roots ≡ tried
  pub fits : IsFitting ask tried new.chosen
  pub left : new.left ≡ old.left

-- The root is left out, and nothing else changes.
pub record IsLeft (ask : Ask) (tried : List UnitName) (root : UnitName) (old new : Settled) : Type 0 where
  pub roots : new.roots ≡ old.roots
  pub chosen : new.chosen ≡ old.chosen
  pub out : LeftOut
  pub left : new.left ≡ old.left ++ out ∷ []
  pub is : IsLeftOut (units_at ask.catalog.now ask.slice.now) tried ask.env.now ask.budget root out

-- The root is kept or left out, or else the budget is spent, with this evidence.
abbrev pub IsStep : Ask → List UnitName → UnitName → Settled → Settled → Option Evidence → Type 0
IsStep ask tried root old new None = IsKept ask tried old new ⊎ IsLeft ask tried root old new
IsStep ask tried root old new (Some evidence) = IsSpentFor (units_at ask.catalog.now ask.slice.now) tried ask.env.now ask.budget evidence

-- ---- all of them

-- The budget is spent on an optional root, with this evidence.
abbrev pub IsSpentBeside : Ask → List UnitName → List UnitName → Evidence → Type 0
IsSpentBeside ask before optional evidence =
    ComesTo (λ roots. ¬ (IsTooLargeFor ask roots) × IsSpentFor (units_at ask.catalog.now ask.slice.now) roots ask.env.now ask.budget evidence) (units_at ask.catalog.now ask.slice.now) ask.env.now ask.budget before optional

-- All are settled, or else the budget is spent on one of them.
abbrev pub AreSteps : Ask → List UnitName → Settled → Settled → Option Evidence → Type 0
AreSteps ask optional old new None =
    IsFitting ask new.roots new.chosen × AreSettled (units_at ask.catalog.now ask.slice.now) ask.env.now ask.budget old.roots optional new.roots new.left
AreSteps ask optional old new (Some evidence) = IsSpentBeside ask old.roots optional evidence

-- ---- the plan

-- The members are the part of some that fit which the wanted roots ask for.
pub record IsSelectionOf (ask : Ask) (kept wanted : List UnitName) (selection : List ℕ) : Type 0 where
  pub chosen : List ℕ
  pub fits : IsFitting ask kept chosen
  pub members : AreMembers ask.catalog.now selection
  pub among : All (Contains ask.slice.now) selection
  pub part : IsRootedPart (units_at ask.catalog.now chosen) wanted ask.env.now (units_at ask.catalog.now selection)

-- All optional roots are settled beside these, and the members are selected for those that are kept.
pub record IsSettledPlan (ask : Ask) (before optional wanted : List UnitName) (selection : List ℕ) (left : List LeftOut) : Type 0 where
  pub kept : List UnitName
  pub settled : AreSettled (units_at ask.catalog.now ask.slice.now) ask.env.now ask.budget before optional kept left
  pub selected : IsSelectionOf ask kept wanted selection

-- Or else the budget is spent on one of them.
abbrev pub IsPlannedBeside : Ask → List UnitName → List UnitName → List UnitName → Planned → Type 0
IsPlannedBeside ask before optional wanted (planned.Selection members left) = IsSettledPlan ask before optional wanted members left
IsPlannedBeside ask before optional wanted (planned.NoSelection evidence) = ⊥
IsPlannedBeside ask before optional wanted (planned.Spent evidence) = IsSpentBeside ask before optional evidence

-- The plan for the strict roots and these optional ones.
abbrev pub IsPlannedFor : Ask → List UnitName → List UnitName → List UnitName → Planned → Type 0
IsPlannedFor ask strict optional wanted (planned.Selection members left) = IsSettledPlan ask strict optional wanted members left
IsPlannedFor ask strict optional wanted (planned.NoSelection evidence) = IsRefuted (units_at ask.catalog.now ask.slice.now) strict ask.env.now ask.budget evidence
IsPlannedFor ask strict optional wanted (planned.Spent evidence) =
    IsSpentFor (units_at ask.catalog.now ask.slice.now) strict ask.env.now ask.budget evidence
    ⊎ (SomeIsValid (units_at ask.catalog.now ask.slice.now) strict ask.env.now × IsSpentBeside ask strict optional evidence)

-- Some selection is valid for the strict roots, and the first problem that is too large is that of an optional one.
abbrev pub IsTooLargeBeside : Ask → List UnitName → List UnitName → Type 0
IsTooLargeBeside ask strict optional =
    SomeIsValid (units_at ask.catalog.now ask.slice.now) strict ask.env.now
    × ComesTo (IsTooLargeFor ask) (units_at ask.catalog.now ask.slice.now) ask.env.now ask.budget strict optional
