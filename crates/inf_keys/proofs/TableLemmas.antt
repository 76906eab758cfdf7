-- Facts on tables whose codes are the places of their rows.
use Rattle.std.proofs.Common.{◌≡◌, ℕ, ◌≤◌, length, List, [], ◌∷◌, ◌++◌, map, Option, Some, None, option_and_then, refl, sym, ap, ◌∙◌}
use Rattle.std.specs.List.{slice_get}
use Rattle.std.proofs.lemmas.Option.{slice_get_past}
use Rattle.case_table.specs.Rows.{Row, rows_of, beside, code_of, name_of}
use Rattle.case_table.proofs.RowLemmas.{beside-by_code}
use Rattle.inf_keys.specs.NameTables.{Names, numbered, every_required_field, required_fields}
use Rattle.inf_keys.specs.Names.{required_name}

-- what stands beside the names
abbrev pub cases_of : {X : Type 0} → Names X → List X
cases_of cases = map (λ c. c.1) cases

-- The k-th case has the code k.
abbrev pub IsInOrder : {X : Type 0} → Names X → Type 0
IsInOrder {X} cases =
    ◌≡◌ {A = List (List ℕ × Option X)} (map (λ c. (c.0, Some c.1)) cases) (map (λ r. (r.0, slice_get (cases_of cases) r.1)) (numbered cases))

module _ {X : Type 0} (cases : Names X) (in_order : IsInOrder cases) (rows : List Row) (same : rows ≡ numbered cases) (text : List ℕ) where
  by_code : beside cases text ≡ option_and_then (slice_get (cases_of cases)) (code_of rows text)
  by_code =
      beside-by_code (slice_get (cases_of cases)) cases rows
      (in_order ∙ ap (λ (rs : List Row). map {B = List ℕ × Option X} (λ r. (r.0, slice_get (cases_of cases) r.1)) rs) (sym same)) text

  -- the case of a code that was found
  pub case_found : (code k : ℕ) → Some code ≡ code_of rows text → code ≡ k → slice_get (cases_of cases) k ≡ beside cases text
  case_found code k found is =
      ap (slice_get (cases_of cases)) (sym is) ∙ ap (option_and_then (slice_get (cases_of cases))) found ∙ sym by_code

  -- a code past the cases
  pub case_past : (code : ℕ) → Some code ≡ code_of rows text → length (cases_of cases) ≤ code → None ≡ beside cases text
  case_past code found past = sym (slice_get_past (cases_of cases) code past) ∙ case_found code code found refl

  -- no code was found
  pub case_none : None ≡ code_of rows text → None ≡ beside cases text
  case_none none = ap (option_and_then (slice_get (cases_of cases))) none ∙ sym by_code

module _ (rows whole : List Row) (code place : ℕ) (name : List ℕ) (same : rows ≡ whole) (is : code ≡ place) (named : name_of whole place ≡ Some name) where
  the_name : name_of rows code ≡ Some name
  the_name = (λ i. name_of (same i) (is i)) ∙ named

  pub name_there : None ≡ name_of rows code → ⊥
  name_there none = let e = the_name in absurd (cc)

  pub name_is : (found : List ℕ) → Some found ≡ name_of rows code → found ≡ name
  name_is found some = let e = the_name in cc

-- names, each ended by LF
abbrev ended : List (List ℕ) → List ℕ
ended [] = []
ended (name ∷ names) = name ++ 10 ∷ ended names

-- the rows of the fields of a requirement
pub required_rows : (rows : List Row) (names : List ℕ) → rows ≡ rows_of names (0 ∷ 1 ∷ 2 ∷ 3 ∷ 4 ∷ 5 ∷ 6 ∷ 7 ∷ 8 ∷ []) → names ≡ ended (map required_name every_required_field)
    → rows ≡ numbered required_fields
required_rows rows names e f = e ∙ ap (λ (n : List ℕ). rows_of n (0 ∷ 1 ∷ 2 ∷ 3 ∷ 4 ∷ 5 ∷ 6 ∷ 7 ∷ 8 ∷ [])) f
