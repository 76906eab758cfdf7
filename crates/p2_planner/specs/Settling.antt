-- What becomes of optional roots.
use Rattle.std.specs.Prelude.{◌≡◌, ◌⊎◌, ℕ, List, [], ◌∷◌, ◌++◌}
use Rattle.ldap_filter.specs.EnvPairs.{EnvPair}
use Rattle.unit_model.specs.declared.name.UnitName.{UnitName}
use Rattle.unit_model.specs.declared.unit.Unit.{Unit as Package}
use Rattle.p2_planner.specs.Roots.{with_name}
use Rattle.p2_planner.specs.Selecting.{SomeIsValid, IsTooLarge, IsRefuted}
use Rattle.p2_planner.specs.declared.planned.LeftOut.{LeftOut}

-- The root is left out, with evidence that no selection of the members is valid for these roots.
pub record IsLeftOut (members : List Package) (roots : List UnitName) (env : List EnvPair) (budget : ℕ) (root : UnitName) (out : LeftOut) : Type 0 where
  pub named : out.root ≡ root
  pub refuted : IsRefuted members roots env budget out.evidence

-- The optional roots are settled one after the other. Where some selection of the members is valid for one beside the
-- roots so far, it is a root from there on. Else it is left out, with evidence of that. No problem is too large.
abbrev pub AreSettled : List Package → List EnvPair → ℕ → List UnitName → List UnitName → List UnitName → List LeftOut → Type 0
AreSettled members env budget before [] after left = (after ≡ before) × (left ≡ [])
AreSettled members env budget before (root ∷ optional) after left =
    ¬ (IsTooLarge members (with_name root before) env)
    × ((SomeIsValid members (with_name root before) env × AreSettled members env budget (with_name root before) optional after left)
    ⊎ ((out : LeftOut) × (rest : List LeftOut) × (left ≡ out ∷ rest) × IsLeftOut members (with_name root before) env budget root out × AreSettled members env budget before optional after rest))

-- The first optional roots are settled, and the roots then, with the next optional one, have the property.
pub record ComesTo (P : List UnitName → Type 0) (members : List Package) (env : List EnvPair) (budget : ℕ) (strict optional : List UnitName) : Type 0 where
  pub first : List UnitName
  pub root : UnitName
  pub later : List UnitName
  pub split : optional ≡ first ++ root ∷ later
  pub before : List UnitName
  pub left : List LeftOut
  pub settled : AreSettled members env budget strict first before left
  pub has : P (with_name root before)
