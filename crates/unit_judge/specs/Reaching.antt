-- Marks on the units that were reached, by number.
use Rattle.std.specs.Prelude.{◌≡◌, ◌↔◌, ◌⊎◌, ℕ, suc, ◌+◌, ◌<◌, Bool, true, false, Some, IsTrue, List, [], ◌∷◌, ◌++◌, length, Contains, slice_get, slice_index_or}
use Rattle.ldap_filter.specs.EnvPairs.{EnvPair}
use Rattle.unit_model.specs.Slice.{HasChain, IsAny}
use Rattle.unit_model.specs.declared.name.UnitName.{UnitName}
use Rattle.unit_model.specs.declared.unit.Unit.{Unit as Package}
use Rattle.unit_judge.specs.Leading.{FollowsAt}
use Rattle.unit_judge.specs.declared.reaching.Reached.{Reached}

abbrev pub IsMarked : List Bool → ℕ → Type 0
IsMarked marks n = IsTrue (slice_index_or marks n false)

-- how many places aren't marked
abbrev pub unmarked : List Bool → ℕ
unmarked [] = 0
unmarked (true ∷ marks) = unmarked marks
unmarked (false ∷ marks) = suc (unmarked marks)

-- The marked numbers are those that stand in the order.
abbrev pub IsListed : Reached → Type 0
IsListed reached = (n : ℕ) → IsMarked reached.marks.items n ↔ Contains reached.order.items n

-- Nothing but numbers of this kind was marked, and each of them was put behind the order.
pub record Marks (Kind : ℕ → Type 0) (old new : Reached) : Type 0 where
  pub size : length new.marks.items ≡ length old.marks.items
  pub kept : (n : ℕ) → IsMarked old.marks.items n → IsMarked new.marks.items n
  pub only : (n : ℕ) → IsMarked new.marks.items n → IsMarked old.marks.items n ⊎ Kind n
  pub grown : (behind : List ℕ) × (new.order.items ≡ old.order.items ++ behind)
  pub listed : IsListed old → IsListed new
  pub level : unmarked new.marks.items + length new.order.items ≡ unmarked old.marks.items + length old.order.items

-- Each number of this kind that there is a mark for is marked.
abbrev pub HasMarked : (ℕ → Type 0) → Reached → Type 0
HasMarked Kind reached = (n : ℕ) → n < length reached.marks.items → Kind n → IsMarked reached.marks.items n

-- Each marked unit has a chain from a root.
abbrev pub IsSound : List Package → List UnitName → List EnvPair → Reached → Type 0
IsSound units roots env reached = (n : ℕ) (u : Package) → IsMarked reached.marks.items n → slice_get units n ≡ Some u → HasChain units IsAny roots env u

-- All that the unit of this number leads to is marked.
abbrev pub IsFollowed : List Package → List EnvPair → Reached → ℕ → Type 0
IsFollowed units env reached n = (u : Package) → slice_get units n ≡ Some u → HasMarked (FollowsAt units env u) reached

-- All that marked units lead to is marked.
abbrev pub IsClosed : List Package → List EnvPair → Reached → Type 0
IsClosed units env reached = (n : ℕ) → IsMarked reached.marks.items n → IsFollowed units env reached n

-- The first unit that isn't marked.
pub record IsUnmarkedFirst (units : List Package) (marks : List Bool) (u : Package) : Type 0 where
  pub number : ℕ
  pub here : slice_get units number ≡ Some u
  pub clear : slice_index_or marks number false ≡ false
  pub before : (k : ℕ) → k < number → IsMarked marks k
