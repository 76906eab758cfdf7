-- When a selection of units meets a requirement.
use Rattle.std.specs.Prelude.{◌≡◌, ℕ, suc, ◌≤◌, ◌⊎◌, false, List, [], ◌∷◌}
use Rattle.ldap_filter.specs.EnvPairs.{EnvPair}
use Rattle.unit_model.specs.Applies.{filter_true}
use Rattle.unit_model.specs.Matches.{Matches}
use Rattle.unit_model.specs.declared.required.Required.{Required}
use Rattle.unit_model.specs.declared.unit.Unit.{Unit as Package}

-- This many elements have the property.
abbrev pub HasCount : {X : Type 0} → (X → Type 0) → List X → ℕ → Type 0
HasCount P [] n = n ≡ 0
HasCount P (x ∷ xs) n = (P x × (m : ℕ) × (n ≡ suc m) × HasCount P xs m) ⊎ (¬ (P x) × HasCount P xs n)

-- As many members match as the requirement asks for. A unit may count for its own requirement.
pub record HasEnough (r : Required) (members : List Package) : Type 0 where
  pub count : ℕ
  pub counted : HasCount (Matches r) members count
  pub least : r.min ≤ count
  pub most : count ≤ r.max

-- Where its filter is false, a requirement asks for nothing.
abbrev pub IsMet : Required → List Package → List EnvPair → Type 0
IsMet r members env = (filter_true env r.filter ≡ false) ⊎ HasEnough r members
