-- What was found so far.
use Rattle.std.specs.Prelude.{ℕ, ◌≡◌, ◌≢◌, ◌<◌, ◌≤◌, ◌⊎◌, ◌++◌, ◌↔◌, Bool, false, IsTrue, List, length, All, AllPairs, Contains, slice_index_or}

-- Of units that are numbered from 0 those that were found, each once.
pub record Numbers : Type 0 where
  pub units : ℕ
  pub found : List ℕ

-- The marks of exactly these numbers are true. They are at most 8,192, each once.
pub record AreMarked (numbers : List ℕ) (marks : List Bool) : Type 0 where
  pub few : length numbers ≤ 8192
  pub distinct : AllPairs (λ m n. m ≢ n) numbers
  pub within : All (λ n. n < length marks) numbers
  pub marked : (n : ℕ) → n < length marks → IsTrue (slice_index_or marks n false) ↔ Contains numbers n

-- Behind the old numbers stand new ones, each of which has the property, and all that have it are there.
pub record Adds (A : ℕ → Type 0) (old new : Numbers) : Type 0 where
  pub units : new.units ≡ old.units
  pub added : List ℕ
  pub front : new.found ≡ old.found ++ added
  pub each : All A added
  pub every : (n : ℕ) → A n → Contains new.found n

-- With those that have the property there are over 8,192.
pub record AreTooMany (A : ℕ → Type 0) (old : Numbers) : Type 0 where
  pub numbers : List ℕ
  pub distinct : AllPairs (λ m n. m ≢ n) numbers
  pub each : All (λ n. Contains old.found n ⊎ A n) numbers
  pub many : 8192 < length numbers
