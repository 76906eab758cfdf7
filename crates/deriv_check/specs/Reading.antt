-- What a reader of words or lines answers. Clauses of private functions alone cite this.
use Rattle.std.specs.Prelude.{◌≡◌, ℕ, ◌+◌, ◌<◌, ◌≤◌, ⊤, List, ◌++◌, length, take, drop, map, Option, Some, None, Result, Ok, Err, All, slice_index_or}
use Rattle.std.specs.Borrow.{Bor}
use Rattle.std.specs.Str.{IsUtf8}
use Rattle.pb_core.specs.declared.constraint.Constraint.{Constraint}
use Rattle.deriv_check.specs.declared.stop.Stop.{Stop}
use Rattle.deriv_check.specs.declared.stop.Stop.TheVariants as stop
use Rattle.deriv_check.specs.EvidenceForm.{IsCount, IsConstraintOver}
use Rattle.deriv_check.specs.EvidenceText.{label_line, constraint_line}

-- The one value that is spelled so, or none where no value is.
abbrev pub Reading : {X W : Type 0} → (X → Type 0) → (X → W) → W → Option X → Type 0
Reading {X} Valid spell written None = (x : X) → Valid x → written ≡ spell x → ⊥
Reading {X} Valid spell written (Some y) = Valid y × (written ≡ spell y) × ((x : X) → Valid x → written ≡ spell x → x ≡ y)

-- the words or lines behind references
abbrev pub seen : List (Bor (List ℕ)) → List (List ℕ)
seen slices = map (λ s. s.now) slices

-- The longest front of the words or lines that is spelled by values.
pub record IsFront {X W : Type 0} (Valid : X → Type 0) (spell : X → W) (written : List W) (found : List X) : Type 0 where
  pub within : length found ≤ length written
  pub valid : All Valid found
  pub spelled : take (length found) written ≡ map spell found
  pub only : (xs : List X) → All Valid xs → map spell xs ≡ map spell found → xs ≡ found
  pub stops : length found < length written → (x : X) (d : W) → Valid x → slice_index_or written (length found) d ≡ spell x → ⊥

-- The lines begin with those of this value, and with those of no other.
pub record Begun {X W : Type 0} (Valid : X → Type 0) (spell : X → List W) (written : List W) (x : X) : Type 0 where
  pub valid : Valid x
  pub spelled : written ≡ spell x ++ drop (length (spell x)) written
  pub only : (y : X) (a b : List W) → Valid y → spell y ++ a ≡ spell x ++ b → y ≡ x

-- some value's lines begin with these
pub record BeginsLines {X W : Type 0} (Valid : X → Type 0) (spell : X → List W) (lines : List W) : Type 0 where
  pub value : X
  pub more : List W
  pub valid : Valid value
  pub spelled : lines ++ more ≡ spell value

-- The lines before this place, from 0, begin those of a value, and with the one at it no value's.
pub record Stops {X W : Type 0} (Valid : X → Type 0) (spell : X → List W) (written : List W) (at : ℕ) : Type 0 where
  pub within : at ≤ length written
  pub before : BeginsLines Valid spell (take at written)
  pub fails : at < length written → (x : X) (more rest : List W) → Valid x → take (at + 1) written ++ more ≡ spell x ++ rest → ⊥
  pub refused : (x : X) (rest : List W) → Valid x → written ≡ spell x ++ rest → ⊥

-- Memory aside, what is read is what the lines begin with, or else the first line that refuses it.
abbrev pub Parses : {X W : Type 0} → (X → Type 0) → (X → List W) → List W → Result X Stop → Type 0
Parses Valid spell written (Ok x) = Begun Valid spell written x
Parses Valid spell written (Err (stop.At at)) = Stops Valid spell written at
Parses Valid spell written (Err stop.NoMemory) = ⊤

-- so many values
abbrev pub IsListOf : {X : Type 0} → (X → Type 0) → ℕ → List X → Type 0
IsListOf Valid count xs = (length xs ≡ count) × All Valid xs

-- a value, and one that depends on it behind it
abbrev pub IsPairOf : {X Y : Type 0} → (X → Type 0) → (X → Y → Type 0) → X × Y → Type 0
IsPairOf Valid Behind p = Valid p.0 × Behind p.0 p.1

abbrev pub pair_lines : {X Y W : Type 0} → (X → List W) → (Y → List W) → X × Y → List W
pair_lines spell behind p = spell p.0 ++ behind p.1

abbrev pub AreCounts : ℕ × ℕ → Type 0
AreCounts counts = IsCount counts.0 × IsCount counts.1

-- labels and constraints, so many of each
abbrev pub AreVariables : ℕ × ℕ → List (List ℕ) × List Constraint → Type 0
AreVariables counts = IsPairOf (IsListOf IsUtf8 counts.0) (λ labels. IsListOf (IsConstraintOver labels) counts.1)

abbrev pub variable_lines : List (List ℕ) × List Constraint → List (List ℕ)
variable_lines = pair_lines (map label_line) (map constraint_line)

-- the place, behind so many lines more
abbrev pub stop_behind : ℕ → Stop → Stop
stop_behind lines (stop.At at) = stop.At (lines + at)
stop_behind lines stop.NoMemory = stop.NoMemory

abbrev pub StopsWithin : ℕ → Stop → Type 0
StopsWithin lines (stop.At at) = at ≤ lines
StopsWithin lines stop.NoMemory = ⊤
