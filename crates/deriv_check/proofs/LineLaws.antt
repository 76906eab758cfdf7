-- Literals of a clause that are made false, one after the other.
use Rattle.std.proofs.Common.{◌≡◌, ◌≢◌, ℕ, zero, suc, ◌+◌, ◌^◌, ◌<◌, ◌≤◌, Bool, true, false, eqb, ◌||◌, List, [], ◌∷◌, ◌++◌, length, get_or, take, map, fold, replicate, Option, Some, None, All, AllPairs, refl, sym, ◌∙◌, inl, inr, ◌⊎◌, ⊎_elim, arith}
use Rattle.std.specs.List.{list_any}
use Rattle.std.proofs.lemmas.Bool.{false≢true}
use Rattle.std.proofs.lemmas.Bool.Decides.{nat_tests, eqb_tells}
use Rattle.std.proofs.lemmas.List.{get_or-map, length-map, get_or-take, length-take, take_more, get_or_default, length-replicate}
use Rattle.std.proofs.lemmas.List.Elements.{All-head, All-tail, All-push, All-map}
use Rattle.std.proofs.lemmas.List.Quantifiers.{all_pairs_push}
use Rattle.std.proofs.lemmas.Map.Keys.{IsDistinct-from_apart}
use Rattle.std.proofs.lemmas.Map.Steps.{length-le_from_distinct_below}
use Rattle.std.proofs.lemmas.List.Sums.{sum_by-cons}
use Rattle.pb_core.specs.AtLeast.{clause}
use Rattle.pb_core.specs.KeptView.{IsKeepable}
use Rattle.pb_core.specs.Slack.{coef_sum}
use Rattle.pb_core.specs.declared.literal.Term.{Term}
use Rattle.pb_core.proofs.KeptChanges.{keepable_clause}
use Rattle.pb_core.specs.Literal.{complement}
use Rattle.pb_core.specs.Values.{value_of, make_true}
use Rattle.pb_core.specs.declared.literal.Lit.{Lit}
use Rattle.pb_core.proofs.ValueLaws.{value_of-set_value, value_of-set_here, value_of-set_elsewhere, length-set_value}
use Rattle.deriv_check.proofs.Soundness.{open_replicate}
use Rattle.deriv_check.specs.HintRule.{all_false}
use Rattle.deriv_check.specs.LineRule.{HasLiterals}

abbrev pub deny_all : List (Option Bool) → List Lit → List (Option Bool)
deny_all values lits = fold (λ later lit. make_true later (complement lit)) values lits

-- variables that no literal has keep their value
pub deny_others : (w : ℕ) (lits : List Lit) (values : List (Option Bool)) → All (λ l. l.variable ≢ w) lits → value_of (deny_all values lits) w ≡ value_of values w
deny_others w [] values apart = refl
deny_others w (l ∷ lits) values apart =
    deny_others w lits (make_true values (complement l)) (All-tail (λ (x : Lit). x.variable ≢ w) l lits apart)
    ∙ value_of-set_elsewhere values l.variable w _ (λ e. All-head (λ (x : Lit). x.variable ≢ w) l lits apart (sym e))

some_not_none : (o : Option Bool) (b : Bool) → o ≡ Some b → o ≢ None
some_not_none o b e n = cc

-- a value stays
deny_stays : (w : ℕ) (lits : List Lit) (values : List (Option Bool)) → value_of values w ≢ None → value_of (deny_all values lits) w ≢ None
deny_stays w [] values some = some
deny_stays w (l ∷ lits) values some =
    deny_stays w lits (make_true values (complement l)) (⊎_elim (λ same e. some (sym same ∙ e)) (λ here. some_not_none _ _ here.1) (value_of-set_value values l.variable w _))

-- each literal's variable has a value
pub deny_sets : (lits : List Lit) (values : List (Option Bool)) → All (λ l. (0 < l.variable) × (l.variable ≤ length values)) lits → (k : ℕ) (d : Lit) → k < length lits → value_of (deny_all values lits) (get_or lits k d).variable ≢ None
deny_sets [] values among k d h = absurd (omega arith)
deny_sets (l ∷ lits) values among zero d h =
    let here = All-head (λ (x : Lit). (0 < x.variable) × (x.variable ≤ length values)) l lits among in
    deny_stays l.variable lits (make_true values (complement l)) (some_not_none _ _ (value_of-set_here values l.variable _ here.0 here.1))
deny_sets (l ∷ lits) values among (suc k) d h =
    deny_sets lits (make_true values (complement l)) (λ j e g. rw (length-set_value values l.variable (Some (complement l).positive)) (All-tail (λ (x : Lit). (0 < x.variable) × (x.variable ≤ length values)) l lits among j e g)) k d (omega arith)

pub length-deny_all : (lits : List Lit) (values : List (Option Bool)) → length (deny_all values lits) ≡ length values
length-deny_all [] values = refl
length-deny_all (l ∷ lits) values = length-deny_all lits (make_true values (complement l)) ∙ length-set_value values l.variable (Some (complement l).positive)

-- ---- how many literals there are

within_head : (n q x : ℕ) (b : Bool) → ((b ≡ true) × (q ≡ x)) ⊎ ((b ≡ false) × (q ≢ x)) → (rest : Bool) → x ≤ n → (rest ≡ true → q < n + 1) → (b || rest) ≡ true → q < n + 1
within_head n q x b (inl t) rest here later h = omega (arith, t.1, here)
within_head n q x b (inr t) rest here later h = later (rw t.0 at h)

any_within : (n q : ℕ) (xs : List ℕ) → All (λ x. x ≤ n) xs → list_any (eqb q) xs ≡ true → q < n + 1
any_within n q [] all e = absurd (false≢true e)
any_within n q (x ∷ xs) all e = within_head n q x (eqb q x) (eqb_tells q x) (list_any (eqb q) xs) (All-head (λ (y : ℕ). y ≤ n) x xs all) (any_within n q xs (All-tail (λ (y : ℕ). y ≤ n) x xs all)) e

pub few_literals : (n : ℕ) (lits : List Lit) → HasLiterals n lits → length lits ≤ n + 1
few_literals n lits has =
    rw (← length-map lits (λ (l : Lit). l.variable)) (length-le_from_distinct_below (map (λ l. l.variable) lits) (n + 1) (IsDistinct-from_apart eqb (map (λ l. l.variable) lits) apart)
    (λ q e. any_within n q (map (λ l. l.variable) lits) (All-map (λ x. x ≤ n) (λ (l : Lit). l.variable) lits (λ k d h. (has.among k d h).1)) e))
  where
    none : Lit
    none = record { variable = 0; positive = false }

    apart : (i j d : ℕ) → i < j → j < length (map (λ l. l.variable) lits) → eqb (get_or (map (λ l. l.variable) lits) i d) (get_or (map (λ l. l.variable) lits) j d) ≡ false
    apart i j d lt h =
        let within : j < length lits = rw (length-map lits (λ (l : Lit). l.variable)) at h in
        let one : get_or (map (λ l. l.variable) lits) i d ≡ (get_or lits i none).variable = get_or-map (λ (l : Lit). l.variable) lits i none d (omega arith) in
        let two : get_or (map (λ l. l.variable) lits) j d ≡ (get_or lits j none).variable = get_or-map (λ (l : Lit). l.variable) lits j none d within in
        let different = has.distinct i j none lt within in
        rw (one, two) (grind (arith, nat_tests, different))

-- ---- one more literal

pub deny_step : (n : ℕ) (lits : List Lit) (i : ℕ) (l : Lit) → i < length lits → l ≡ get_or lits i l → HasLiterals n (take i lits) → 0 < l.variable → l.variable ≤ n → value_of (all_false n (take i lits)) l.variable ≡ None → HasLiterals n (take (i + 1) lits)
deny_step n lits i l within is has some most open_one = rw (take_more lits i l within, ← is) (record { among = All-push (λ (x : Lit). (0 < x.variable) × (x.variable ≤ n)) (take i lits) l has.among (some, most); distinct = distinct })
  where
    new : (k : ℕ) (d : Lit) → k < length (take i lits) → (get_or (take i lits) k d).variable ≢ l.variable
    new k d h e = deny_sets (take i lits) (replicate n None) (λ j x g. rw (length-replicate {A = Option Bool} n None) (has.among j x g)) k d h (rw e open_one)

    distinct : AllPairs (λ a b. a.variable ≢ b.variable) (take i lits ++ l ∷ [])
    distinct = all_pairs_push (λ (a b : Lit). a.variable ≢ b.variable) (take i lits) l has.distinct new

-- a literal that isn't open stands twice
pub deny_twice : (n : ℕ) (lits : List Lit) (i : ℕ) (l : Lit) → i < length lits → l ≡ get_or lits i l → value_of (all_false n (take i lits)) l.variable ≢ None → HasLiterals n lits → ⊥
deny_twice n lits i l within is set_one has = set_one (deny_others l.variable (take i lits) (replicate n None) apart ∙ none_at)
  where
    apart : All (λ x. x.variable ≢ l.variable) (take i lits)
    apart k d h =
        let lt : k < i = omega (arith, rw length-take at h) in
        let at_last : get_or lits i d ≡ l = get_or_default lits i d l within ∙ sym is in
        let before : (get_or lits k d).variable ≢ l.variable = rw at_last at (has.distinct k i d lt within) in
        rw (get_or-take i lits k d lt) before

    none_at : value_of (replicate n None) l.variable ≡ None
    none_at = open_replicate n l.variable

clause_coefs : (lits : List Lit) → coef_sum (clause lits).terms ≡ length lits
clause_coefs [] = refl
clause_coefs (lit ∷ lits) =
    let cons = sum_by-cons (λ (u : Term). u.coef) (record { coef = 1; lit = lit }) (clause lits).terms in
    let rest = clause_coefs lits in
    omega arith

-- a clause whose literals are good, as a hint
pub clause_small : (n : ℕ) (lits : List Lit) → n < 2 ^ 32 → HasLiterals n lits → coef_sum (clause lits).terms ≤ 2 ^ 54
clause_small n lits few has = omega (arith, clause_coefs lits, few_literals n lits has)

pub clause_keepable : (n : ℕ) (lits : List Lit) → n < 2 ^ 32 → HasLiterals n lits → IsKeepable n (clause lits)
clause_keepable n lits few has = keepable_clause n lits has.among has.distinct (omega (arith, few_literals n lits has))
