-- The rows of a table: names, each with its code.
use Rattle.std.specs.Prelude.{◌≡◌, ℕ, ◌==◌, ◌&&◌, not, Bool, true, List, [], ◌∷◌, length, Option, Some, None, Contains, if◌then◌else◌}
use Rattle.std.specs.List.{onto_first, list_any, zip}
use Rattle.std.specs.Str.{bytes_eq}

-- a name and its code
abbrev pub Row : Type 0
Row = List ℕ × ℕ

-- the names, each ended by LF
abbrev pub names_of : List ℕ → List (List ℕ)
names_of [] = []
names_of (b ∷ bytes) = if b == 10 then [] ∷ names_of bytes else onto_first b (names_of bytes)

-- the k-th name with the k-th code
abbrev pub rows_of : List ℕ → List ℕ → List Row
rows_of names numbers = zip (names_of names) numbers

-- The last name is ended too.
abbrev pub ends_by_lf : List ℕ → Bool
ends_by_lf [] = true
ends_by_lf (b ∷ []) = b == 10
ends_by_lf (b ∷ c ∷ bytes) = ends_by_lf (c ∷ bytes)

-- No two of these are equal.
abbrev pub are_distinct : {X : Type 0} → (X → X → Bool) → List X → Bool
are_distinct eq [] = true
are_distinct eq (x ∷ xs) = not (list_any (eq x) xs) && are_distinct eq xs

abbrev pub has_distinct_rows : List Row → Bool
has_distinct_rows rows = are_distinct (λ a b. bytes_eq a.0 b.0) rows && are_distinct (λ a b. a.1 == b.1) rows

-- As many names as codes, each name ended by LF, names distinct and codes distinct.
abbrev pub is_table : List ℕ → List ℕ → Bool
is_table names numbers =
    ends_by_lf names && (length (names_of names) == length numbers) && has_distinct_rows (rows_of names numbers)

-- what stands beside the name: in a row its code, in a caller's list of cases the case
abbrev pub beside : {V : Type 0} → List (List ℕ × V) → List ℕ → Option V
beside [] name = None
beside (row ∷ rows) name = if bytes_eq name row.0 then Some row.1 else beside rows name

-- the code in the row of the name
abbrev pub code_of : List Row → List ℕ → Option ℕ
code_of rows name = beside rows name

-- the name in the row of the code
abbrev pub name_of : List Row → ℕ → Option (List ℕ)
name_of [] code = None
name_of (row ∷ rows) code = if code == row.1 then Some row.0 else name_of rows code

-- The row is in the table, and no other row has its name.
pub record IsOneByName (rows : List Row) (row : Row) : Type 0 where
  pub there : Contains rows row
  pub one : (other : Row) → Contains rows other → other.0 ≡ row.0 → other ≡ row

-- The row is in the table, and no other row has its code.
pub record IsOneByCode (rows : List Row) (row : Row) : Type 0 where
  pub there : Contains rows row
  pub one : (other : Row) → Contains rows other → other.1 ≡ row.1 → other ≡ row
