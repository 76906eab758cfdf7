-- Where units stand among members.
use Rattle.std.specs.Prelude.{◌≡◌, ◌≢◌, ◌↔◌, ℕ, ◌+◌, ◌<◌, ◌≤◌, Bool, true, false, Option, Some, None, List, [], length, All, AllPairs, Contains, slice_get, slice_index}
use Rattle.std.specs.Option.{option_map_or}
use Rattle.unit_model.specs.declared.unit.Unit.{Unit as Package}
use Rattle.pb_rows.specs.Deciding.{is_single, is_other}

-- At each of these numbers stands its place from 1, and 0 at any other.
abbrev pub HasPlaces : List ℕ → List ℕ → Type 0
HasPlaces numbers places = (n k : ℕ) → (slice_index places n ≡ k + 1) ↔ (slice_get numbers k ≡ Some n)

-- The number stands among the others, and the variable is its place from 1.
pub record IsVariableOfNumber (numbers : List ℕ) (n v : ℕ) : Type 0 where
  pub place : ℕ
  pub is : v ≡ place + 1
  pub here : slice_get numbers place ≡ Some n

-- the same, or None where the number isn't among them
abbrev pub IsVariableAt : List ℕ → ℕ → Option ℕ → Type 0
IsVariableAt numbers n None = (k : ℕ) → slice_get numbers k ≢ Some n
IsVariableAt numbers n (Some v) = IsVariableOfNumber numbers n v

-- The variable is that of one of the given numbers.
pub record IsVariableAmong (numbers given : List ℕ) (v : ℕ) : Type 0 where
  pub number : ℕ
  pub stands : Contains given number
  pub variable : IsVariableOfNumber numbers number v

-- Exactly the variables of those of the given numbers that have one, each once.
pub record AreFound (numbers given found : List ℕ) : Type 0 where
  pub each : All (IsVariableAmong numbers given) found
  pub every : All (λ n. (v : ℕ) → IsVariableOfNumber numbers n v → Contains found v) given
  pub distinct : AllPairs (λ v w. v ≢ w) found

-- the id of the member at a place
abbrev pub id_at : List Package → ℕ → List ℕ
id_at members place = option_map_or (λ u. u.name.id) (slice_get members place) []

-- No member before this place has the id of the one that is there.
abbrev pub IsFirstOfId : List Package → ℕ → Type 0
IsFirstOfId members place = (k : ℕ) → k < place → place < length members → id_at members k ≢ id_at members place

-- The members of one id are those from one place up to another.
pub record IsRun (members : List Package) (from to : ℕ) : Type 0 where
  pub some : from < to
  pub within : to ≤ length members
  pub each : (k : ℕ) → k < length members → (id_at members k ≡ id_at members from) ↔ ((from ≤ k) × (k < to))

-- whether a unit has the id and is a singleton, or has it and is none
abbrev pub of_id : List ℕ → Bool → Package → Bool
of_id id true = is_single id
of_id id false = is_other id
