-- A clause that forces its first literal once the trail is taken back.
use Rattle.std.specs.Prelude.{ℕ, ◌-◌, ◌<◌, ◌≤◌, IsTrue, List, [], ◌∷◌, length, All, slice_index_or}
use Rattle.pb_core.specs.Values.{is_false, is_open}
use Rattle.pb_core.specs.declared.literal.Lit.{Lit}
use Rattle.pb_trail.specs.Along.{values_before}
use Rattle.pb_trail.specs.declared.trail.Trail.{Trail}

-- Before the start the first literal was open, and before the floor the others were false; one of them was open just
-- before that.
pub record IsAssertingBy (trail : Trail) (start floor : ℕ) (first : Lit) (others : List Lit) : Type 0 where
  pub below : floor ≤ start
  pub first_open : IsTrue (is_open (values_before (length trail.kept.values) trail.entries.items start) first)
  pub others_false : All (λ other. IsTrue (is_false (values_before (length trail.kept.values) trail.entries.items floor) other)) others
  pub last_open : 0 < floor → (j : ℕ) × (j < length others) × ((d : Lit) → IsTrue (is_open (values_before (length trail.kept.values) trail.entries.items (floor - 1)) (slice_index_or others j d)))

abbrev pub IsAsserting : Trail → ℕ → ℕ → List Lit → Type 0
IsAsserting trail start floor [] = ⊥
IsAsserting trail start floor (first ∷ others) = IsAssertingBy trail start floor first others
