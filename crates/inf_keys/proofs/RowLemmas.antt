-- Facts on what is read of a row, and of a name.
use Rattle.std.proofs.Common.{◌≡◌, ℕ, ◌≤◌, Bool, true, false, cond, List, [], ◌∷◌, ◌++◌, Option, Some, None, option_map, option_and_then, arith, refl, ap, ◌∙◌}
use Rattle.std.specs.Fmt.{decimal}
use Rattle.std.specs.Str.{bytes_eq}
use Rattle.std.proofs.lemmas.Option.{same_Some, some_pair_parts}
use Rattle.std.proofs.lemmas.Slice.Eq.{bytes_eq-Decides}
use Rattle.case_table.specs.Rows.{beside}
use Rattle.inf_keys.specs.Cut.{first_word, behind_first}
use Rattle.inf_keys.specs.KeyReading.{row_in}
use Rattle.inf_keys.specs.NameTables.{named}
use Rattle.inf_keys.specs.Number.{number_at_most}
use Rattle.inf_keys.proofs.CutLemmas.{cut_found, cut_digits}
use Rattle.inf_keys.proofs.NumberLemmas.{decimal_is_digits, number_again, number_found}

abbrev with_rest : List ℕ → ℕ → ℕ × List ℕ
with_rest rest n = (n, rest)

-- what is written of a row is read again
pub row_again : (n : ℕ) (rest : List ℕ) → n ≤ 999999 → row_in (decimal n ++ 46 ∷ rest) ≡ Some (n, rest)
unfolding row_in
row_again n rest h =
    let cut = cut_digits (decimal n) rest (decimal_is_digits n h) in
    ap (λ o. option_and_then (λ r. option_map (with_rest r) (number_at_most 999999 (first_word (decimal n ++ 46 ∷ rest)))) o) cut.1
    ∙ ap (λ w. option_map (with_rest rest) (number_at_most 999999 w)) cut.0
    ∙ ap (option_map (with_rest rest)) (number_again n h)

-- what is read of a row is written so
pub row_found : (text : List ℕ) (n : ℕ) (rest : List ℕ) → row_in text ≡ Some (n, rest) → (n ≤ 999999) × (text ≡ decimal n ++ 46 ∷ rest)
unfolding row_in
row_found text n rest h = by (behind_first text) refl h
  where
    Found : Type 0
    Found = (n ≤ 999999) × (text ≡ decimal n ++ 46 ∷ rest)

    at : (r : List ℕ) (o : Option ℕ) → number_at_most 999999 (first_word text) ≡ o → behind_first text ≡ Some r → option_map (with_rest r) o ≡ Some (n, rest) → Found
    at r None f e k = absurd (cc)
    at r (Some m) f e k =
        let parts = some_pair_parts m n r rest k in
        let found = number_found (first_word text) m f in
        let same : m ≡ n = parts.0 in
        let word : first_word text ≡ decimal n = found.1 ∙ ap decimal same in
        (omega (arith, found.0, same), cut_found text r e ∙ (λ i. word i ++ 46 ∷ parts.1 i))

    by : (o : Option (List ℕ)) → behind_first text ≡ o → option_and_then (λ r. option_map (with_rest r) (number_at_most 999999 (first_word text))) o ≡ Some (n, rest) → Found
    by None e k = absurd (cc)
    by (Some r) e k = at r (number_at_most 999999 (first_word text)) refl e k

-- what is found by a name has the name
pub beside_found : {X : Type 0} (name : X → List ℕ) (xs : List X) (text : List ℕ) (x : X) → beside (named name xs) text ≡ Some x → text ≡ name x
beside_found name [] text x h = absurd (cc)
beside_found name (y ∷ ys) text x h = by (bytes_eq text (name y)) refl h (beside_found name ys text x)
  where
    by : (t : Bool) → bytes_eq text (name y) ≡ t → cond t (Some y) (beside (named name ys) text) ≡ Some x → (beside (named name ys) text ≡ Some x → text ≡ name x) → text ≡ name x
    by true e k more = (bytes_eq-Decides text (name y)).0 e ∙ ap name (same_Some y x k)
    by false e k more = more k
