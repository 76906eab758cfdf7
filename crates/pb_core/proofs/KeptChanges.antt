-- The fields of kept slacks, through each change.
use Rattle.std.proofs.Common.{◌≡◌, ◌≢◌, ℕ, ◌+◌, ◌-◌, ◌*◌, ◌^◌, ◌<◌, ◌≤◌, Bool, true, false, cond, Vec, Global, List, [], ◌∷◌, ◌++◌, length, get_or, take, drop, map, ℤ, pos, ◌+ℤ◌, ◌-ℤ◌, ◌≤ℤ◌, Option, Some, None, is_none, All, AllPairs, ⊎_elim, refl, sym, ap, subst, ◌∙◌, arith}
use Rattle.std.proofs.Math.Seq.{get_or-append_seam}
use Rattle.std.proofs.lemmas.Bool.{false≢true, cases_lt}
use Rattle.std.proofs.lemmas.Grind.{common_steps}
use Rattle.std.proofs.lemmas.Int.{ints}
use Rattle.std.proofs.lemmas.List.{get_or-map, length-map, length_push, map-append, get_or_append_left}
use Rattle.std.proofs.lemmas.List.Elements.{All-push}
use Rattle.std.proofs.lemmas.List.Kept.{AllPairs-from_increasing}
use Rattle.std.proofs.lemmas.List.Sums.{sum_by-cons}
use Rattle.pb_core.specs.AtLeast.{AtLeast, clause}
use Rattle.pb_core.specs.KeptView.{IsKept, IsKeepable, row_seen, place_of, lists_seen}
use Rattle.pb_core.specs.Literal.{complement}
use Rattle.pb_core.specs.Normal.{IsNormalOver}
use Rattle.pb_core.specs.Occurrences.{coefficient, own_occurrence, occurrences_from}
use Rattle.pb_core.specs.Shares.{share_at, AreNumbered}
use Rattle.pb_core.specs.Slack.{coef_sum, slack_of, greatest_coef}
use Rattle.pb_core.specs.Values.{value_of, set_value, make_true, is_open}
use Rattle.pb_core.specs.declared.literal.Lit.{Lit}
use Rattle.pb_core.specs.declared.literal.Term.{Term}
use Rattle.pb_core.specs.declared.occurrences.Occurrence.{Occurrence}
use Rattle.pb_core.specs.declared.rows.Row.{Row}
use Rattle.pb_core.proofs.KeptLaws.{occurrences_numbered, occurrences_from-push, reachable_change, reachable-le, coefficient-le, share-occurrences_from}
use Rattle.pb_core.proofs.ValueLaws.{length-set_value, value_of-set_here, value_of-set_elsewhere}

pub open_none : (o : Option Bool) → is_none o ≡ true → o ≡ None
open_none None e = refl
open_none (Some b) e = absurd (false≢true e)

-- what one constraint has of the occurrences of a literal
pub row_share : (rows : List Row) (lit : Lit) (k : ℕ) (d : Row) → k < length rows → share_at (k + 1) (occurrences_from 1 lit (map row_seen rows)) ≡ coefficient lit (get_or rows k d).terms
row_share rows lit k d within =
    let inside : k < length (map row_seen rows) = rw (length-map rows row_seen) within in
    let share = share-occurrences_from k 1 lit (map row_seen rows) (row_seen d) inside in
    let same : k + 1 ≡ 1 + k = omega arith in
    rw same (share ∙ rw (get_or-map row_seen rows k d (row_seen d) within) refl)

pub record HasBounds (slack : ℤ) (share : ℕ) : Type 0 where
  pub low : pos 0 ≤ℤ (slack +ℤ pos (2 ^ 61))
  pub high : slack ≤ℤ pos (2 ^ 61)
  pub share_small : share ≤ 2 ^ 60

pub row_bounds : (rows : List Row) (slacks : List ℤ) (lists : List (List Occurrence)) (values : List (Option Bool)) (lit : Lit) → IsKept rows slacks lists values → (k : ℕ) → k < length rows → HasBounds (get_or slacks k (pos 0)) (share_at (k + 1) (occurrences_from 1 lit (map row_seen rows)))
row_bounds rows slacks lists values lit kept k within =
    let d : Row = record { terms = []; degree = 0; greatest = 0 } in
    let is = kept.right_slacks k d within in
    let keepable = kept.keepable k d within in
    let sum = keepable.small_sum in
    let degree = keepable.small_degree in
    let most = reachable-le values (get_or rows k d).terms in
    let part = coefficient-le lit (get_or rows k d).terms in
    record {
      low = rw is (omega (arith, ints));
      high = rw is (omega (arith, ints));
      share_small = rw (row_share rows lit k d within) (omega (arith, part, sum));
    }

keepable_same : (n m : ℕ) (c : AtLeast) → n ≡ m → IsKeepable n c → IsKeepable m c
keepable_same n m c e k = subst (λ x. IsKeepable x c) e k

-- other values, where the slacks changed with them
changed : (rows : List Row) (slacks after : List ℤ) (lists : List (List Occurrence)) (values now : List (Option Bool)) → IsKept rows slacks lists values → length now ≡ length values → length after ≡ length slacks → ((k : ℕ) (d : Row) → k < length rows → get_or after k (pos 0) ≡ slack_of now (row_seen (get_or rows k d))) → IsKept rows after lists now
changed rows slacks after lists values now kept size all right = record {
  few = kept.few;
  few_values = rw size kept.few_values;
  keepable = λ k d h. keepable_same (length values) (length now) (row_seen (get_or rows k d)) (sym size) (kept.keepable k d h);
  greatest = kept.greatest;
  all_slacks = all ∙ kept.all_slacks;
  right_slacks = right;
  all_lists = rw size kept.all_lists;
  right_lists = λ lit some most. kept.right_lists lit some (rw size at most);
}

pub assigned : (rows : List Row) (slacks after : List ℤ) (lists : List (List Occurrence)) (values : List (Option Bool)) (lit : Lit) → IsKept rows slacks lists values → is_open values lit ≡ true → 0 < lit.variable → lit.variable ≤ length values → length after ≡ length slacks → ((k : ℕ) → k < length slacks → get_or after k (pos 0) ≡ get_or slacks k (pos 0) -ℤ pos (share_at (k + 1) (occurrences_from 1 (complement lit) (map row_seen rows)))) → IsKept rows after lists (make_true values lit)
assigned rows slacks after lists values lit kept unset some most all lowered =
    changed rows slacks after lists values (make_true values lit) kept (length-set_value values lit.variable (Some lit.positive)) all right
  where
    right : (k : ℕ) (d : Row) → k < length rows → get_or after k (pos 0) ≡ slack_of (make_true values lit) (row_seen (get_or rows k d))
    right k d h =
        let old = kept.right_slacks k d h in
        let new = lowered k (rw kept.all_slacks h) in
        let share = row_share rows (complement lit) k d h in
        let change = reachable_change values (make_true values lit) lit (open_none _ unset) (value_of-set_here values lit.variable (Some lit.positive) some most) (λ u apart. value_of-set_elsewhere values lit.variable u (Some lit.positive) apart) (get_or rows k d).terms in
        omega (arith, ints)

pub cleared : (rows : List Row) (slacks after : List ℤ) (lists : List (List Occurrence)) (values : List (Option Bool)) (lit : Lit) → IsKept rows slacks lists values → value_of values lit.variable ≡ Some lit.positive → 0 < lit.variable → lit.variable ≤ length values → length after ≡ length slacks → ((k : ℕ) → k < length slacks → get_or after k (pos 0) ≡ get_or slacks k (pos 0) +ℤ pos (share_at (k + 1) (occurrences_from 1 (complement lit) (map row_seen rows)))) → IsKept rows after lists (set_value values lit.variable None)
cleared rows slacks after lists values lit kept is_set some most all raised =
    changed rows slacks after lists values (set_value values lit.variable None) kept (length-set_value values lit.variable None) all right
  where
    right : (k : ℕ) (d : Row) → k < length rows → get_or after k (pos 0) ≡ slack_of (set_value values lit.variable None) (row_seen (get_or rows k d))
    right k d h =
        let old = kept.right_slacks k d h in
        let new = raised k (rw kept.all_slacks h) in
        let share = row_share rows (complement lit) k d h in
        let change = reachable_change (set_value values lit.variable None) values lit (value_of-set_here values lit.variable None some most) is_set (λ u apart. sym (value_of-set_elsewhere values lit.variable u None apart)) (get_or rows k d).terms in
        omega (arith, ints)

-- what a `&mut` slice of a `Vec` leaves
pub written : {X : Type 0} (xs new : List X) (n : ℕ) → n ≡ length xs → length new ≡ length xs → take n (new ++ drop (length new) xs) ≡ new
written xs new n e f = grind (arith, common_steps)

place_within : (lit : Lit) (n : ℕ) → 0 < lit.variable → lit.variable ≤ n → place_of lit < 2 * n
place_within lit n some most = by lit.positive
  where
    by : (b : Bool) → 2 * (lit.variable - 1) + cond b 0 1 < 2 * n
    by true = omega arith
    by false = omega arith

-- the list that is read at a literal's place has its occurrences
pub list_is : (rows : List Row) (slacks : List ℤ) (lists : List (Vec Occurrence Global)) (values : List (Option Bool)) (lit : Lit) (v : Vec Occurrence Global) → IsKept rows slacks (lists_seen lists) values → 0 < lit.variable → lit.variable ≤ length values → v ≡ get_or lists (place_of lit) v → v.items ≡ occurrences_from 1 lit (map row_seen rows)
list_is rows slacks lists values lit v kept some most is =
    let size : length lists ≡ 2 * length values = rw (length-map lists (λ (x : Vec Occurrence Global). x.items)) at kept.all_lists in
    let within : place_of lit < length lists = omega (arith, place_within lit (length values) some most) in
    ap (λ (x : Vec Occurrence Global). x.items) is ∙ (sym (get_or-map (λ (x : Vec Occurrence Global). x.items) lists (place_of lit) v [] within) ∙ kept.right_lists lit some most)

-- the numbers of a literal's occurrences are those of constraints
pub list_numbered : (rows : List Row) (slacks : List ℤ) (lists : List (List Occurrence)) (values : List (Option Bool)) (lit : Lit) → IsKept rows slacks lists values → AreNumbered (length slacks) (occurrences_from 1 lit (map row_seen rows))
list_numbered rows slacks lists values lit kept =
    let same : length slacks ≡ length (map row_seen rows) = kept.all_slacks ∙ sym (length-map rows row_seen) in
    rw same (occurrences_numbered lit (map row_seen rows))

-- what the slacks may be, before they change
pub all_bounds : (rows : List Row) (slacks : List ℤ) (lists : List (List Occurrence)) (values : List (Option Bool)) (lit : Lit) → IsKept rows slacks lists values → (k : ℕ) → k < length slacks → (pos 0 ≤ℤ (get_or slacks k (pos 0) +ℤ pos (2 ^ 62))) × (get_or slacks k (pos 0) ≤ℤ pos (2 ^ 62)) × (share_at (k + 1) (occurrences_from 1 lit (map row_seen rows)) ≤ 2 ^ 61)
all_bounds rows slacks lists values lit kept k within =
    let b = row_bounds rows slacks lists values lit kept k (rw (← kept.all_slacks) within) in
    let low = b.low in
    let high = b.high in
    (omega (arith, ints), omega (arith, ints), omega (arith, b.share_small))

-- ---- one more constraint

seen_push : (rows : List Row) (row : Row) → map row_seen (rows ++ row ∷ []) ≡ map row_seen rows ++ row_seen row ∷ []
seen_push rows row = map-append row_seen rows (row ∷ [])

pub appended : (rows : List Row) (slacks : List ℤ) (lists after : List (List Occurrence)) (values : List (Option Bool)) (row : Row) (slack : ℤ) → IsKept rows slacks lists values → length rows < 2000000000 → IsKeepable (length values) (row_seen row) → row.greatest ≡ greatest_coef row.terms → slack ≡ slack_of values (row_seen row) → length after ≡ length lists → ((lit : Lit) → 0 < lit.variable → place_of lit < length lists → get_or after (place_of lit) [] ≡ get_or lists (place_of lit) [] ++ own_occurrence (length rows + 1) lit row.terms) → IsKept (rows ++ row ∷ []) (slacks ++ slack ∷ []) after values
appended rows slacks lists after values row slack kept few keepable greatest is size entered = record {
  few = rw length_push (omega arith);
  few_values = kept.few_values;
  keepable = All-push (λ (r : Row). IsKeepable (length values) (row_seen r)) rows row kept.keepable keepable;
  greatest = All-push (λ (r : Row). r.greatest ≡ greatest_coef r.terms) rows row kept.greatest greatest;
  all_slacks = rw (length_push slacks slack, length_push rows row, kept.all_slacks) refl;
  right_slacks = right;
  all_lists = size ∙ kept.all_lists;
  right_lists = listed;
}
  where
    right : (k : ℕ) (d : Row) → k < length (rows ++ row ∷ []) → get_or (slacks ++ slack ∷ []) k (pos 0) ≡ slack_of values (row_seen (get_or (rows ++ row ∷ []) k d))
    right k d h = ⊎_elim old new (cases_lt k (length rows))
      where
        all : k < length rows + 1
        all = rw (length_push rows row) at h

        old : k < length rows → get_or (slacks ++ slack ∷ []) k (pos 0) ≡ slack_of values (row_seen (get_or (rows ++ row ∷ []) k d))
        old lt =
            let one = get_or_append_left slacks (slack ∷ []) (pos 0) k (rw kept.all_slacks lt) in
            let two = get_or_append_left rows (row ∷ []) d k lt in
            rw (one, two) (kept.right_slacks k d lt)

        new : length rows ≤ k → get_or (slacks ++ slack ∷ []) k (pos 0) ≡ slack_of values (row_seen (get_or (rows ++ row ∷ []) k d))
        new ge =
            let one : get_or (slacks ++ slack ∷ []) (length slacks) (pos 0) ≡ slack = get_or-append_seam slacks slack [] (pos 0) in
            let two : get_or (rows ++ row ∷ []) (length rows) d ≡ row = get_or-append_seam rows row [] d in
            let at : k ≡ length rows = omega (arith, all) in
            let one' = rw kept.all_slacks at one in
            rw (at, one', two) is

    listed : (lit : Lit) → 0 < lit.variable → lit.variable ≤ length values → get_or after (place_of lit) [] ≡ occurrences_from 1 lit (map row_seen (rows ++ row ∷ []))
    listed lit some most =
        let within : place_of lit < length lists = omega (arith, place_within lit (length values) some most, kept.all_lists) in
        let new = entered lit some within in
        let old = kept.right_lists lit some most in
        let push = occurrences_from-push 1 lit (map row_seen rows) (row_seen row) in
        let count : 1 + length (map row_seen rows) ≡ length rows + 1 = omega (arith, length-map rows row_seen) in
        rw (seen_push rows row, push, count) (new ∙ rw old refl)

-- ---- constraints that can be kept

pub keepable_normal : (variables : ℕ) (c : AtLeast) → IsNormalOver variables c → IsKeepable variables c
keepable_normal variables c n = record {
  among = n.among;
  coefs = λ k d h. (n.normal.coefs k d h).0;
  distinct = λ i j d lt h. let pairs = AllPairs-from_increasing (map (λ u. u.lit.variable) c.terms) n.normal.rising i j 0 lt (rw (length-map c.terms (λ (u : Term). u.lit.variable)) h) in let one : get_or (map (λ u. u.lit.variable) c.terms) i 0 ≡ (get_or c.terms i d).lit.variable = get_or-map (λ (u : Term). u.lit.variable) c.terms i d 0 (omega arith) in let two : get_or (map (λ u. u.lit.variable) c.terms) j 0 ≡ (get_or c.terms j d).lit.variable = get_or-map (λ (u : Term). u.lit.variable) c.terms j d 0 h in λ e. absurd (omega (arith, pairs, one, two));
  small_sum = omega (arith, n.normal.small_sum);
  small_degree = n.normal.small_degree;
}

clause_coefs : (lits : List Lit) → coef_sum (clause lits).terms ≡ length lits
clause_coefs [] = refl
clause_coefs (lit ∷ lits) =
    let cons = sum_by-cons (λ (u : Term). u.coef) (record { coef = 1; lit = lit }) (clause lits).terms in
    let rest = clause_coefs lits in
    omega arith

pub keepable_clause : (variables : ℕ) (lits : List Lit) → All (λ l. (0 < l.variable) × (l.variable ≤ variables)) lits → AllPairs (λ a b. a.variable ≢ b.variable) lits → length lits ≤ 2 ^ 60 → IsKeepable variables (clause lits)
keepable_clause variables lits among distinct few = record {
  among = λ k d h. rw (at k d h) (among k d.lit (size k h));
  coefs = λ k d h. rw (at k d h) (omega arith);
  distinct = λ i j d lt h. rw (at i d (omega arith), at j d h) (distinct i j d.lit lt (size j h));
  small_sum = rw (clause_coefs lits) few;
  small_degree = omega arith;
}
  where
    size : (k : ℕ) → k < length (clause lits).terms → k < length lits
    size k h = rw (length-map {B = Term} lits (λ (l : Lit). record { coef = 1; lit = l })) at h

    at : (k : ℕ) (d : Term) → k < length (clause lits).terms → get_or (clause lits).terms k d ≡ record { coef = 1; lit = get_or lits k d.lit }
    at k d h = get_or-map {Y = Term} (λ (l : Lit). record { coef = 1; lit = l }) lits k d.lit d (size k h)
