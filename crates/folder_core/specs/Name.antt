use Rattle.std.specs.Prelude.{◌≡◌, ◌≢◌, ◌↔◌, ℕ, ◌≤◌, List, [], length, Contains, codes}
use Rattle.std.specs.List.{AllAdjacentBelow}
use Rattle.std.specs.Str.{IsUtf8}
use Rattle.std.specs.Ordering.{nat_cmp}
use Rattle.std.specs.Cmp.Lexicographic.{slice_cmp}
use Rattle.std.specs.declared.cmp.Ordering.TheVariants.{Less}

-- 1 to 255 bytes of UTF-8 with no `/` and no NUL, and not `.` or `..`
pub record IsName (bytes : List ℕ) : Type 0 where
  pub utf8 : IsUtf8 bytes
  pub some : bytes ≢ []
  pub short : length bytes ≤ 255
  pub no_slash : ¬ (Contains bytes 47)
  pub no_nul : ¬ (Contains bytes 0)
  pub no_dot : bytes ≢ codes "."
  pub no_dots : bytes ≢ codes ".."

-- The bytes of one name are below those of the other, where a front of a name is below it.
abbrev pub IsBefore : List ℕ → List ℕ → Type 0
IsBefore a b = slice_cmp nat_cmp a b ≡ Less

-- Each name is below the next, so that no name comes twice.
abbrev pub AreRising : List (List ℕ) → Type 0
AreRising names = AllAdjacentBelow IsBefore names (length names)

-- The names are those that have P.
abbrev pub AreThose : (List ℕ → Type 0) → List (List ℕ) → Type 0
AreThose P names = (name : List ℕ) → Contains names name ↔ P name
