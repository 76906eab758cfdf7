-- What an index lists.
use Rattle.std.specs.Prelude.{ℕ, ◌<◌, List, [], All, AllPairs, Contains}
use Rattle.std.specs.Option.{option_map_or}
use Rattle.std.specs.Ordering.{nat_cmp}
use Rattle.std.specs.BTreeMap.{get}
use Rattle.unit_catalog.specs.declared.index.Index.{Index}

-- the numbers at a key
abbrev pub listed : Index → ℕ → List ℕ
listed index key = option_map_or (λ v. v.items) (get nat_cmp index.numbers key) []

-- Each number is below the later ones.
abbrev pub IsRising : List ℕ → Type 0
IsRising numbers = AllPairs (λ m n. m < n) numbers

-- The numbers rise, and all lie below this one.
pub record RisesBelow (top : ℕ) (numbers : List ℕ) : Type 0 where
  pub order : IsRising numbers
  pub below : All (λ n. n < top) numbers

abbrev pub AreRising : ℕ → Index → Type 0
AreRising top index = (key : ℕ) → RisesBelow top (listed index key)

-- The new index has each number at each key where the old one had it.
abbrev pub Keeps : Index → Index → Type 0
Keeps old new = (key n : ℕ) → Contains (listed old key) n → Contains (listed new key) n

-- The same of the numbers below this one.
abbrev pub KeepsBelow : ℕ → Index → Index → Type 0
KeepsBelow top old new = (key n : ℕ) → n < top → Contains (listed old key) n → Contains (listed new key) n
