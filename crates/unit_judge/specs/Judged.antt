-- Which answer is given for units: that all is well, or the first rule that they break.
use Rattle.std.specs.Prelude.{◌≡◌, ℕ, ◌+◌, ◌-◌, ◌^◌, ◌<◌, min, Some, List, ◌++◌, All, AllPairs, Contains, IsTrue, slice_get}
use Rattle.ldap_filter.specs.EnvPairs.{EnvPair}
use Rattle.unit_model.specs.Applies.{filter_true}
use Rattle.unit_model.specs.Met.{IsMet}
use Rattle.unit_model.specs.Slice.{HasChain, IsAny, AreRooted}
use Rattle.unit_model.specs.Valid.{names, Collide, IsValid}
use Rattle.unit_model.specs.declared.judgement.Judgement.{Judgement}
use Rattle.unit_model.specs.declared.judgement.Judgement.TheVariants.{Good, Root, Applies, Requirement, Singleton, Unrooted}
use Rattle.unit_model.specs.declared.name.UnitName.{UnitName}
use Rattle.unit_model.specs.declared.required.Required.{Required}
use Rattle.unit_model.specs.declared.unit.Unit.{Unit as Package}

-- The element at this place hasn't the property, and each one before it has.
pub record FailsFirst {X : Type 0} (P : X → Type 0) (xs : List X) (place : ℕ) (x : X) : Type 0 where
  pub here : slice_get xs place ≡ Some x
  pub fails : ¬ (P x)
  pub before : (k : ℕ) (y : X) → k < place → slice_get xs k ≡ Some y → P y

abbrev pub DoesApply : List EnvPair → Package → Type 0
DoesApply env u = IsTrue (filter_true env u.filter)

-- Each requirement of the unit is met among the units.
abbrev pub IsServed : List Package → List EnvPair → Package → Type 0
IsServed units env u = All (λ r. IsMet r units env) u.required

-- The rules before the last, each for all members.

abbrev pub HaveRoots : List Package → List UnitName → Type 0
HaveRoots units strict = All (Contains (names units)) strict

abbrev pub AllApply : List Package → List EnvPair → Type 0
AllApply units env = All (DoesApply env) units

abbrev pub AreServed : List Package → List EnvPair → Type 0
AreServed units env = All (IsServed units env) units

abbrev pub StandApart : List Package → Type 0
StandApart units = AllPairs (λ u v. ¬ (Collide u v)) units

-- The first root that no member has the name of.
abbrev pub IsMissingRoot : List Package → List UnitName → UnitName → Type 0
IsMissingRoot units strict root = (place : ℕ) × FailsFirst (Contains (names units)) strict place root

-- The first member without the property.
abbrev pub IsFirstWithout : (Package → Type 0) → List Package → Package → Type 0
IsFirstWithout P units u = (place : ℕ) × FailsFirst P units place u

-- The first member that has a requirement which isn't met, and the place of the first of these, from 0.
pub record IsUnserved (units : List Package) (env : List EnvPair) (u : Package) (place : ℕ) : Type 0 where
  pub member : IsFirstWithout (IsServed units env) units u
  pub required : Required
  pub requirement : FailsFirst (λ r. IsMet r units env) u.required place required

-- The first member that collides with a later one, and the first later one that it collides with.
pub record AreColliding (units : List Package) (u v : Package) : Type 0 where
  pub first : ℕ
  pub second : ℕ
  pub order : first < second
  pub first_is : slice_get units first ≡ Some u
  pub second_is : slice_get units second ≡ Some v
  pub collide : Collide u v
  pub before : (i j : ℕ) (w x : Package) → i < first → i < j → slice_get units i ≡ Some w → slice_get units j ≡ Some x → ¬ (Collide w x)
  pub between : (j : ℕ) (x : Package) → first < j → j < second → slice_get units j ≡ Some x → ¬ (Collide u x)

-- Rows are numbered from 1. The greatest number that fits stands for all rows from there on.
abbrev pub row_number : ℕ → ℕ
row_number place = min (place + 1) (2 ^ 32 - 1)

-- The answer names the first rule that is broken, and the first that breaks it. It is Good where none is.
abbrev pub IsJudged : List Package → List UnitName → List UnitName → List EnvPair → Judgement → Type 0
IsJudged units strict optional env Good = IsValid units strict env × AreRooted units strict optional env
IsJudged units strict optional env (Root root) = IsMissingRoot units strict root
IsJudged units strict optional env (Applies name) =
    HaveRoots units strict × (u : Package) × (u.name ≡ name) × IsFirstWithout (DoesApply env) units u
IsJudged units strict optional env (Requirement name row) =
    HaveRoots units strict × AllApply units env
    × (u : Package) × (place : ℕ) × (u.name ≡ name) × (row_number place ≡ row) × IsUnserved units env u place
IsJudged units strict optional env (Singleton first second) =
    HaveRoots units strict × AllApply units env × AreServed units env
    × (u : Package) × (v : Package) × (u.name ≡ first) × (v.name ≡ second) × AreColliding units u v
IsJudged units strict optional env (Unrooted name) =
    IsValid units strict env
    × (u : Package) × (u.name ≡ name) × IsFirstWithout (HasChain units IsAny (strict ++ optional) env) units u
