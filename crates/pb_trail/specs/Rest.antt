-- Constraints that have nothing more to force.
use Rattle.std.specs.Prelude.{◌≡◌, ℕ, ◌<◌, ◌≤◌, Bool, false, IsTrue, List, Option, Some, None, length, slice_index_or}
use Rattle.pb_core.specs.AtLeast.{AtLeast}
use Rattle.pb_core.specs.ConstraintAt.{constraint_at}
use Rattle.pb_core.specs.Literal.{complement}
use Rattle.pb_core.specs.Occurrences.{holds_literal}
use Rattle.pb_core.specs.Propagates.{IsAtRest}
use Rattle.pb_core.specs.Slack.{IsViolated, Forces}
use Rattle.pb_core.specs.Values.{is_open}
use Rattle.pb_core.specs.declared.literal.Lit.{Lit}
use Rattle.pb_core.specs.declared.literal.Term.{Term}
use Rattle.pb_trail.specs.declared.trail.Entry.{Entry}
use Rattle.pb_trail.specs.declared.trail.Trail.{Trail}

-- not violated, and forces no open literal
abbrev pub Rests : List (Option Bool) → AtLeast → Type 0
Rests values c = ¬ (IsViolated values c) × ((lit : Lit) → ¬ (Forces values c lit))

-- none of the entries from a place on made a literal of the constraint false
abbrev pub IsUntouched : List Entry → ℕ → AtLeast → Type 0
IsUntouched entries first c = (k : ℕ) (d : Entry) → first ≤ k → k < length entries → holds_literal (complement (slice_index_or entries k d).lit) c ≡ false

-- each constraint rests that no entry from a place on touched
abbrev pub RestOrTouched : Trail → ℕ → Type 0
RestOrTouched trail first = (n : ℕ) → 0 < n → n ≤ length trail.kept.constraints → IsUntouched trail.entries.items first (constraint_at trail.kept.constraints n) → Rests trail.kept.values (constraint_at trail.kept.constraints n)

-- the constraints before a number rest
abbrev pub RestBefore : Trail → ℕ → Type 0
RestBefore trail number = (n : ℕ) → 0 < n → n < number → n ≤ length trail.kept.constraints → Rests trail.kept.values (constraint_at trail.kept.constraints n)

-- all constraints rest, or the named one is violated
abbrev pub IsSettled : Trail → Option ℕ → Type 0
IsSettled trail None = IsAtRest trail.kept.constraints trail.kept.values
IsSettled trail (Some n) = (0 < n) × (n ≤ length trail.kept.constraints) × IsViolated trail.kept.values (constraint_at trail.kept.constraints n)

-- none of the terms before a place is open with a coefficient above the room
abbrev pub AreTermsQuiet : List (Option Bool) → List Term → ℕ → ℕ → Type 0
AreTermsQuiet values terms room place = (k : ℕ) (d : Term) → k < place → k < length terms → IsTrue (is_open values (slice_index_or terms k d).lit) → (slice_index_or terms k d).coef ≤ room
