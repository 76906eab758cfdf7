-- The clause of the marked literals.
use Rattle.std.specs.Prelude.{◌≡◌, ℕ, ◌+◌, ◌<◌, ◌≤◌, IsTrue, List, [], ◌∷◌, Contains, All, AllPairs, slice_index_or}
use Rattle.pb_core.specs.Literal.{complement}
use Rattle.pb_core.specs.declared.literal.Lit.{Lit}
use Rattle.pb_trail.specs.declared.trail.Entry.{Entry}
use Rattle.pb_trail.specs.declared.trail.Trail.{Trail}
use Rattle.clause_learning.specs.Marks.{is_marked, place_in}
use Rattle.clause_learning.specs.declared.cut.Cut.{Cut}

-- the complement of the marked literal of an entry from a place on
pub record IsDenied (trail : Trail) (cut : Cut) (first : ℕ) (lit : Lit) : Type 0 where
  pub from_first : first ≤ place_in cut.places.items lit.variable
  pub below : place_in cut.places.items lit.variable < cut.top
  pub marked : IsTrue (is_marked cut.seen.items lit.variable)
  pub is : (d : Entry) → lit ≡ complement (slice_index_or trail.entries.items (place_in cut.places.items lit.variable) d).lit

-- all of them, the latest first
pub record IsCollected (trail : Trail) (cut : Cut) (first : ℕ) (lits : List Lit) : Type 0 where
  pub each : All (IsDenied trail cut first) lits
  pub every : (k : ℕ) (d : Entry) → first ≤ k → k < cut.top → IsTrue (is_marked cut.seen.items (slice_index_or trail.entries.items k d).lit.variable) → Contains lits (complement (slice_index_or trail.entries.items k d).lit)
  pub falling : AllPairs (λ a b. place_in cut.places.items b.variable < place_in cut.places.items a.variable) lits

-- one above the place of the second literal, or 0 where there is none
abbrev pub floor_of : List ℕ → List Lit → ℕ
floor_of places [] = 0
floor_of places (first ∷ []) = 0
floor_of places (first ∷ second ∷ others) = place_in places second.variable + 1
