use Rattle.std.specs.Prelude.{ℕ, ◌<◌, ◌≤◌, List, ◌++◌, length, take}

-- Some accepted text begins with these bytes.
abbrev pub Begins : (List ℕ → Type 0) → List ℕ → Type 0
Begins Accepted front = (rest : List ℕ) × Accepted (front ++ rest)

-- The longest front of the text that some accepted text begins with has `at` bytes.
pub record IsLongestBegin (Accepted : List ℕ → Type 0) (text : List ℕ) (at : ℕ) : Type 0 where
  pub within : at ≤ length text
  pub begins : Begins Accepted (take at text)
  pub longest : (n : ℕ) → at < n → n ≤ length text → ¬ (Begins Accepted (take n text))
