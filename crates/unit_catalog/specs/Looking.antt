-- What is found among the units of some numbers.
use Rattle.std.specs.Prelude.{◌≡◌, ℕ, true, Option, Some, None, List, All, Contains, slice_get, ⊤}
use Rattle.std.specs.Ordering.{is_gt}
use Rattle.ldap_filter.specs.EnvPairs.{EnvPair}
use Rattle.unit_model.specs.Matches.{Matches}
use Rattle.unit_model.specs.declared.required.Required.{Required}
use Rattle.unit_model.specs.declared.unit.Unit.{Unit as Package}
use Rattle.unit_catalog.specs.At.{HasAt}
use Rattle.unit_catalog.specs.Greatest.{by_version, IsUpTo, IsOfId, Updates}
use Rattle.unit_catalog.specs.Listed.{IsRising}
use Rattle.unit_catalog.specs.declared.wanted.Wanted.{Wanted}
use Rattle.unit_catalog.specs.declared.wanted.Wanted.TheVariants.{OfId, UpdaterOf}

abbrev pub IsWanted : Wanted → List EnvPair → Package → Type 0
IsWanted (OfId id) env u = IsOfId id.now env u
IsWanted (UpdaterOf name) env u = Updates name.now env u

-- The first of the numbers whose unit has the property, or None where none has it.
abbrev pub IsFoundAmong : List Package → (Package → Type 0) → List ℕ → Option ℕ → Type 0
IsFoundAmong units P numbers None = All (λ n. ¬ (HasAt units P n)) numbers
IsFoundAmong units P numbers (Some n) = HasAt units P n

-- The unit of the first number is above that of the second, where both are there.
abbrev pub IsAbove : List Package → ℕ → Option ℕ → Type 0
IsAbove units n None = ⊤
IsAbove units n (Some m) = (u v : Package) → slice_get units n ≡ Some u → slice_get units m ≡ Some v → is_gt (by_version u.name v.name) ≡ true

-- There is a second number, and the unit of the first isn't above that of the second, where both are there.
abbrev pub IsNoHigher : List Package → ℕ → Option ℕ → Type 0
IsNoHigher units n None = ⊥
IsNoHigher units n (Some m) = (u v : Package) → slice_get units n ≡ Some u → slice_get units m ≡ Some v → IsUpTo u.name v.name

pub record IsGreatestOf (units : List Package) (P : Package → Type 0) (numbers : List ℕ) (n : ℕ) : Type 0 where
  pub unit : Package
  pub here : slice_get units n ≡ Some unit
  pub wanted : P unit
  pub most : All (λ m. (v : Package) → slice_get units m ≡ Some v → P v → IsUpTo v.name unit.name) numbers

-- The greatest of the numbers whose units have the property, or None where none has it.
abbrev pub IsGreatestAmong : List Package → (Package → Type 0) → List ℕ → Option ℕ → Type 0
IsGreatestAmong units P numbers None = All (λ n. ¬ (HasAt units P n)) numbers
IsGreatestAmong units P numbers (Some n) = IsGreatestOf units P numbers n

-- Those of the numbers whose units match, in their order.
pub record AreMatching (units : List Package) (r : Required) (numbers found : List ℕ) : Type 0 where
  pub rising : IsRising found
  pub among : All (Contains numbers) found
  pub each : All (HasAt units (Matches r)) found
  pub every : All (λ n. HasAt units (Matches r) n → Contains found n) numbers
