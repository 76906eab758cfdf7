-- Facts on rows with distinct keys.
use Rattle.std.proofs.Common.{◌≡◌, ◌≢◌, ◌⊎◌, ◌&&◌, ◌||◌, ℕ, Bool, true, false, cond, not, suc, zero, nat_eq, List, [], ◌∷◌, Option, Some, None, option_map, option_and_then, map, All, Contains, Decides, inl, inr, ⊎_elim, refl, sym, ap, subst, ◌∙◌, arith}
use Rattle.std.specs.List.{list_any}
use Rattle.std.specs.Str.{bytes_eq}
use Rattle.std.proofs.lemmas.Bool.{false≢true}
use Rattle.std.proofs.lemmas.Bool.Decides.{Decides-eqb}
use Rattle.std.proofs.lemmas.List.Elements.{All-nil, All-cons}
use Rattle.std.proofs.lemmas.Slice.Eq.{bytes_eq-Decides}
use Rattle.case_table.specs.Rows.{Row, are_distinct, has_distinct_rows, is_table, rows_of, beside, code_of, name_of, IsOneByName, IsOneByCode}

Contains-cases : {X : Type 0} (x : X) (xs : List X) (y : X) → Contains (x ∷ xs) y → (x ≡ y) ⊎ Contains xs y
Contains-cases x xs y (zero, inside, e) = inl e
Contains-cases x xs y (suc k, inside, e) = inr (k, omega arith, e)

none_passes : {X : Type 0} (p : X → Bool) (xs : List X) (y : X) → list_any p xs ≡ false → Contains xs y → p y ≡ false
none_passes p [] y h there = absurd (omega arith)
none_passes p (x ∷ xs) y h there =
    by (p x) refl h (Contains-cases x xs y there) (λ rest inside. none_passes p xs y rest inside)
  where
    by : (t : Bool) → p x ≡ t → (t || list_any p xs) ≡ false → (x ≡ y) ⊎ Contains xs y → (list_any p xs ≡ false → Contains xs y → p y ≡ false) → p y ≡ false
    by true e h at rest = absurd (false≢true (sym h))
    by false e h (inl same) rest = sym (ap p same) ∙ e
    by false e h (inr inside) rest = rest h inside

and_left : (x y : Bool) → (x && y) ≡ true → x ≡ true
and_left true y h = refl
and_left false y h = h

and_right : (x y : Bool) → (x && y) ≡ true → y ≡ true
and_right true y h = h
and_right false y h = absurd (false≢true h)

not_true : (x : Bool) → not x ≡ true → x ≡ false
not_true true h = absurd (false≢true h)
not_true false h = refl

module _ {K : Type 0} (key : Row → K) (eq : K → K → Bool) (decides : (a b : K) → Decides (eq a b) (a ≡ b)) where
  -- the first row with the key
  abbrev row_by : List Row → K → Option Row
  row_by [] k = None
  row_by (row ∷ rows) k = cond (eq k (key row)) (Some row) (row_by rows k)

  record IsOne (rows : List Row) (k : K) (row : Row) : Type 0 where
    there : Contains rows row
    has_key : key row ≡ k
    one : (other : Row) → Contains rows other → key other ≡ k → other ≡ row

  abbrev KeysDiffer : List Row → Bool
  KeysDiffer rows = are_distinct (λ a b. eq (key a) (key b)) rows

  -- no later row has the first row's key
  lone : (first : Row) (rows : List Row) (other : Row) → KeysDiffer (first ∷ rows) ≡ true → Contains rows other → key other ≢ key first
  lone first rows other distinct inside same =
      let none = not_true (list_any (λ b. eq (key first) (key b)) rows) (and_left _ _ distinct) in
      let differs = none_passes (λ b. eq (key first) (key b)) rows other none inside in
      false≢true (sym differs ∙ (decides (key first) (key other)).1 (sym same))

  IsOne-from_row : (rows : List Row) (k : K) (row : Row) → KeysDiffer rows ≡ true → row_by rows k ≡ Some row → IsOne rows k row
  IsOne-from_row [] k row distinct h = absurd cc
  IsOne-from_row (first ∷ rows) k row distinct h =
      by (eq k (key first)) refl h (IsOne-from_row rows k row (and_right _ _ distinct))
    where
      by : (t : Bool) → eq k (key first) ≡ t → cond t (Some first) (row_by rows k) ≡ Some row → (row_by rows k ≡ Some row → IsOne rows k row) → IsOne (first ∷ rows) k row
      by true e h rest =
          let same : first ≡ row = cc in
          let has : key first ≡ k = sym ((decides k (key first)).0 e) in
          record {
            there = (0, omega arith, same);
            has_key = ap key (sym same) ∙ has;
            one = λ other at has_k. ⊎_elim (λ is. sym is ∙ same) (λ inside. absurd (lone first rows other distinct inside (has_k ∙ sym has))) (Contains-cases first rows other at);
          }
      by false e h rest =
          let found = rest h in
          record {
            there = (suc found.there.0, omega (arith, found.there.1), found.there.2);
            has_key = found.has_key;
            one = λ other at has_k. ⊎_elim (λ is. absurd (false≢true (sym e ∙ (decides k (key first)).1 (sym has_k ∙ ap key (sym is))))) (λ inside. found.one other inside has_k) (Contains-cases first rows other at);
          }

  All-differ : (rows : List Row) (k : K) → row_by rows k ≡ None → All (λ row. key row ≢ k) rows
  All-differ [] k h = All-nil (λ row. key row ≢ k)
  All-differ (first ∷ rows) k h = by (eq k (key first)) refl h (All-differ rows k)
    where
      by : (t : Bool) → eq k (key first) ≡ t → cond t (Some first) (row_by rows k) ≡ None → (row_by rows k ≡ None → All (λ row. key row ≢ k) rows) → All (λ row. key row ≢ k) (first ∷ rows)
      by true e h rest = absurd cc
      by false e h rest =
          All-cons (λ row. key row ≢ k) first rows (λ same. false≢true (sym e ∙ (decides k (key first)).1 (sym same))) (rest h)

  -- what a row holds beside its key
  module _ {V : Type 0} (value : Row → V) where
    abbrev value_by : List Row → K → Option V
    value_by [] k = None
    value_by (row ∷ rows) k = cond (eq k (key row)) (Some (value row)) (value_by rows k)

    value_by-none : (rows : List Row) (k : K) → value_by rows k ≡ None → row_by rows k ≡ None
    value_by-none [] k h = refl
    value_by-none (first ∷ rows) k h = by (eq k (key first)) h (value_by-none rows k)
      where
        by : (t : Bool) → cond t (Some (value first)) (value_by rows k) ≡ None → (value_by rows k ≡ None → row_by rows k ≡ None) → cond t (Some first) (row_by rows k) ≡ None
        by true h rest = absurd cc
        by false h rest = rest h

    value_by-some : (rows : List Row) (k : K) (v : V) → value_by rows k ≡ Some v → (row : Row) × (row_by rows k ≡ Some row) × (value row ≡ v)
    value_by-some [] k v h = absurd cc
    value_by-some (first ∷ rows) k v h = by (eq k (key first)) h (value_by-some rows k v)
      where
        by : (t : Bool) → cond t (Some (value first)) (value_by rows k) ≡ Some v → (value_by rows k ≡ Some v → (row : Row) × (row_by rows k ≡ Some row) × (value row ≡ v))
            → (row : Row) × (cond t (Some first) (row_by rows k) ≡ Some row) × (value row ≡ v)
        by true h rest = (first, refl, cc)
        by false h rest = rest h

code_of-value_by : (rows : List Row) (name : List ℕ) → code_of rows name ≡ value_by (λ r. r.0) bytes_eq bytes_eq-Decides (λ r. r.1) rows name
code_of-value_by [] name = refl
code_of-value_by (row ∷ rows) name = ap (λ rest. cond (bytes_eq name row.0) (Some row.1) rest) (code_of-value_by rows name)

name_of-value_by : (rows : List Row) (code : ℕ) → name_of rows code ≡ value_by (λ r. r.1) nat_eq Decides-eqb (λ r. r.0) rows code
name_of-value_by [] code = refl
name_of-value_by (row ∷ rows) code = ap (λ rest. cond (nat_eq code row.1) (Some row.0) rest) (name_of-value_by rows code)

module _ (names numbers : List ℕ) (table : is_table names numbers ≡ true) where
  abbrev rows : List Row
  rows = rows_of names numbers

  distinct_rows : has_distinct_rows rows ≡ true
  distinct_rows = and_right _ (has_distinct_rows rows) table

  -- a code that is found is that of the one row with the name
  pub IsOneByName-code_of : (name : List ℕ) (code : ℕ) → Some code ≡ code_of rows name → IsOneByName rows (name, code)
  IsOneByName-code_of name code h =
      let by_name = value_by-some (λ r. r.0) bytes_eq bytes_eq-Decides (λ r. r.1) rows name code (sym (code_of-value_by rows name) ∙ sym h) in
      let found = IsOne-from_row (λ r. r.0) bytes_eq bytes_eq-Decides rows name by_name.0 (and_left _ _ distinct_rows) by_name.1 in
      let same : by_name.0 ≡ (name, code) = λ i. (found.has_key i, by_name.2 i) in
      record {
        there = subst (Contains rows) same found.there;
        one = λ other inside is. found.one other inside is ∙ same;
      }

  -- a name that is found is that of the one row with the code
  pub IsOneByCode-name_of : (code : ℕ) (name : List ℕ) → Some name ≡ name_of rows code → IsOneByCode rows (name, code)
  IsOneByCode-name_of code name h =
      let by_code = value_by-some (λ r. r.1) nat_eq Decides-eqb (λ r. r.0) rows code name (sym (name_of-value_by rows code) ∙ sym h) in
      let found = IsOne-from_row (λ r. r.1) nat_eq Decides-eqb rows code by_code.0 (and_right _ _ distinct_rows) by_code.1 in
      let same : by_code.0 ≡ (name, code) = λ i. (by_code.2 i, found.has_key i) in
      record {
        there = subst (Contains rows) same found.there;
        one = λ other inside is. found.one other inside is ∙ same;
      }

pub All-other_name : (rows : List Row) (name : List ℕ) → None ≡ code_of rows name → All (λ row. row.0 ≢ name) rows
All-other_name rows name h =
    All-differ (λ r. r.0) bytes_eq bytes_eq-Decides rows name (value_by-none (λ r. r.0) bytes_eq bytes_eq-Decides (λ r. r.1) rows name (sym (code_of-value_by rows name) ∙ sym h))

pub All-other_code : (rows : List Row) (code : ℕ) → None ≡ name_of rows code → All (λ row. row.1 ≢ code) rows
All-other_code rows code h =
    All-differ (λ r. r.1) nat_eq Decides-eqb rows code (value_by-none (λ r. r.1) nat_eq Decides-eqb (λ r. r.0) rows code (sym (name_of-value_by rows code) ∙ sym h))

beside-mapped : {U V : Type 0} (f : U → V) (rows : List (List ℕ × U)) (name : List ℕ) → beside (map (λ r. (r.0, f r.1)) rows) name ≡ option_map f (beside rows name)
beside-mapped f [] name = refl
beside-mapped f (row ∷ rows) name = by (bytes_eq name row.0) (beside-mapped f rows name)
  where
    by : (t : Bool) → beside (map (λ r. (r.0, f r.1)) rows) name ≡ option_map f (beside rows name)
        → cond t (Some (f row.1)) (beside (map (λ r. (r.0, f r.1)) rows) name) ≡ option_map f (cond t (Some row.1) (beside rows name))
    by true h = refl
    by false h = h

joined : {U V : Type 0} (f : U → Option V) (x : Option V) (y : Option U) → option_map Some x ≡ option_map f y → x ≡ option_and_then f y
joined f None None h = refl
joined f None (Some u) h = absurd cc
joined f (Some v) None h = absurd cc
joined f (Some v) (Some u) h = cc

-- What a caller writes beside a name is what it makes of the name's code, where it does so row by row.
pub beside-by_code : {V : Type 0} (case_at : ℕ → Option V) (cases : List (List ℕ × V)) (rows : List Row) → map {B = List ℕ × Option V} (λ c. (c.0, Some c.1)) cases ≡ map {B = List ℕ × Option V} (λ r. (r.0, case_at r.1)) rows
    → (name : List ℕ) → beside cases name ≡ option_and_then case_at (code_of rows name)
beside-by_code case_at cases rows same name =
    joined case_at (beside cases name) (beside rows name) (sym (beside-mapped Some cases name) ∙ ap (λ all. beside all name) same ∙ beside-mapped case_at rows name)
