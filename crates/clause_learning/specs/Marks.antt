-- Marked variables of a trail.
use Rattle.std.specs.Prelude.{◌≡◌, ◌≢◌, ℕ, ◌+◌, ◌<◌, ◌≤◌, Bool, false, IsTrue, List, length, slice_index_or}
use Rattle.pb_core.specs.Values.{is_false}
use Rattle.pb_core.specs.declared.literal.Term.{Term}
use Rattle.pb_trail.specs.Along.{values_before}
use Rattle.pb_trail.specs.declared.trail.Entry.{Entry}
use Rattle.pb_trail.specs.declared.trail.Trail.{Trail}
use Rattle.clause_learning.specs.declared.cut.Cut.{Cut}

abbrev pub is_marked : List Bool → ℕ → Bool
is_marked seen variable = slice_index_or seen variable false

-- where a variable's entry stands
abbrev pub place_in : List ℕ → ℕ → ℕ
place_in places variable = slice_index_or places variable 0

abbrev pub ArePlaces : List Entry → List ℕ → Type 0
ArePlaces entries places = (k : ℕ) (d : Entry) → k < length entries → place_in places (slice_index_or entries k d).lit.variable ≡ k

-- the entry of a marked variable
pub record MarkedEntry (trail : Trail) (top v : ℕ) : Type 0 where
  pub place : ℕ
  pub below : place < top
  pub is : (d : Entry) → (slice_index_or trail.entries.items place d).lit.variable ≡ v

-- Marked variables have entries before the top, and of those the stop is one above the lowest that counts.
pub record HasMarks (trail : Trail) (cut : Cut) : Type 0 where
  pub all_places : length cut.places.items ≡ length trail.kept.values + 1
  pub are_places : ArePlaces trail.entries.items cut.places.items
  pub all_marks : length cut.seen.items ≡ length trail.kept.values + 1
  pub within : cut.top ≤ length trail.entries.items
  pub marked_below : (v : ℕ) → IsTrue (is_marked cut.seen.items v) → MarkedEntry trail cut.top v
  pub stop_first : (k : ℕ) (d : Entry) → cut.bottom ≤ k + 1 → k < cut.top → IsTrue (is_marked cut.seen.items (slice_index_or trail.entries.items k d).lit.variable) → cut.stop ≤ k + 1
  pub ordered : cut.bottom ≤ cut.stop

-- only marks were added
pub record KeepsMarks (before after : Cut) : Type 0 where
  pub marks : (v : ℕ) → IsTrue (is_marked before.seen.items v) → IsTrue (is_marked after.seen.items v)
  pub hints : after.hints.items ≡ before.hints.items
  pub top : after.top ≡ before.top
  pub bottom : after.bottom ≡ before.bottom
  pub stop : after.stop ≤ before.stop

-- The marks that were added are of entries before a limit.
pub record AddsBelow (limit : ℕ) (before after : Cut) : Type 0 where
  pub places : after.places.items ≡ before.places.items
  pub marks : (v : ℕ) → limit ≤ place_in before.places.items v → IsTrue (is_marked after.seen.items v) → IsTrue (is_marked before.seen.items v)
  pub stop : limit < before.bottom → after.stop ≡ before.stop

-- Of the marks at most that of the entry at a place is taken away, and it is.
pub record KeepsOthers (trail : Trail) (place : ℕ) (before after : Cut) : Type 0 where
  pub others : (v : ℕ) (d : Entry) → v ≢ (slice_index_or trail.entries.items place d).lit.variable → IsTrue (is_marked before.seen.items v) → IsTrue (is_marked after.seen.items v)
  pub cleared : (d : Entry) → ¬ (IsTrue (is_marked after.seen.items (slice_index_or trail.entries.items place d).lit.variable))
  pub top : after.top ≡ before.top
  pub bottom : after.bottom ≡ before.bottom
  pub stop : after.stop ≤ before.stop
  pub same_stop : place < before.bottom → after.stop ≡ before.stop

-- The marks of entries from a place on stay.
pub record KeepsFrom (trail : Trail) (first : ℕ) (before after : Cut) : Type 0 where
  pub marks : (k : ℕ) (d : Entry) → first ≤ k → k < length trail.entries.items → IsTrue (is_marked before.seen.items (slice_index_or trail.entries.items k d).lit.variable) → IsTrue (is_marked after.seen.items (slice_index_or trail.entries.items k d).lit.variable)
  pub top : after.top ≡ before.top
  pub bottom : after.bottom ≡ before.bottom
  pub stop : after.stop ≡ before.stop

-- of the first terms, each literal that was false before the top is marked
abbrev pub HaveMarks : Trail → ℕ → List Bool → List Term → ℕ → Type 0
HaveMarks trail top seen terms count = (k : ℕ) (d : Term) → k < count → k < length terms → IsTrue (is_false (values_before (length trail.kept.values) trail.entries.items top) (slice_index_or terms k d).lit) → IsTrue (is_marked seen (slice_index_or terms k d).lit.variable)
