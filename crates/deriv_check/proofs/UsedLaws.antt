-- Marks of what is reached from the last line, and what the constraints that are used show.
use Rattle.std.proofs.Common.{◌≡◌, ℕ, zero, suc, ◌+◌, ◌-◌, ◌<◌, ◌≤◌, Bool, true, false, List, [], ◌∷◌, ◌++◌, length, get_or, set, take, drop, map, replicate, Contains, All, ◌↔◌, ◌⊎◌, inl, inr, ⊎_elim, IsTrue, append_assoc, refl, sym, ap, ◌∙◌, arith}
use Rattle.std.specs.List.Sorted.{IsStrictlyIncreasing}
use Rattle.std.proofs.lemmas.Bool.{false≢true, cases_lt}
use Rattle.std.proofs.lemmas.Bool.Decides.{eqb_tells}
use Rattle.std.proofs.lemmas.List.{get_or_default, get_or-replicate, get_or_past, length-replicate, length-map, get_or-map, length-take, length_push, get_or_append_left, get_or-append_right, map-append, take-append-drop, take_more, get_or-set_same, get_or-set_other, length-set}
use Rattle.std.proofs.lemmas.List.Elements.{Contains-push, Contains-push_cases, All-contains, All-contains_itself, All-map}
use Rattle.std.proofs.Math.ListN.{length-append}
use Rattle.std.proofs.Math.Seq.{get_or-append_seam}
use Rattle.pb_core.specs.AtLeast.{AtLeast, at_least}
use Rattle.pb_core.specs.ConstraintAt.{constraint_at}
use Rattle.pb_core.specs.Satisfied.{IsSatisfied, SatisfiesAll, MakesTrue, IsUnsatisfiable}
use Rattle.pb_core.specs.declared.constraint.Constraint.{Constraint}
use Rattle.pb_core.proofs.SatisfactionLaws.{clause_from_true}
use Rattle.deriv_check.specs.Database.{database, line_seen}
use Rattle.deriv_check.specs.LineRule.{hinted}
use Rattle.deriv_check.specs.Marks.{is_marked}
use Rattle.deriv_check.specs.Used.{IsReached, IsUsed, HaveEarlierHints}
use Rattle.deriv_check.specs.Used.IsReached.{last, hint}
use Rattle.deriv_check.specs.Verdict.{CheckUpTo, EndsEmpty}
use Rattle.deriv_check.specs.declared.derivation.Line.{Line}
use Rattle.deriv_check.proofs.Soundness.{line_holds}

contains_more : (xs : List ℕ) (y x : ℕ) → Contains xs x → Contains (xs ++ y ∷ []) x
contains_more xs y x c = (c.0, omega (arith, c.1, length_push xs y), get_or_append_left xs (y ∷ []) x c.0 c.1 ∙ c.2)

-- ---- marks

set_here : (marks : List Bool) (x n : ℕ) → n ≡ x → x < length marks → IsTrue (is_marked (set marks x true) n)
set_here marks x n same within = rw same (get_or-set_same marks x true false within)

set_keeps : (marks : List Bool) (x n : ℕ) → x < length marks → IsTrue (is_marked marks n) → IsTrue (is_marked (set marks x true) n)
set_keeps marks x n within marked =
    ⊎_elim (λ t. set_here marks x n t.1 within) (λ t. get_or-set_other marks x n true false t.1 ∙ marked) (eqb_tells n x)

set_cases : (marks : List Bool) (x n : ℕ) → IsTrue (is_marked (set marks x true) n) → IsTrue (is_marked marks n) ⊎ (x ≡ n)
set_cases marks x n marked =
    ⊎_elim (λ t. inr (sym t.1)) (λ t. inl (sym (get_or-set_other marks x n true false t.1) ∙ marked)) (eqb_tells n x)

-- one more number is marked
pub mark_step : (start marks : List Bool) (numbers : List ℕ) (i x : ℕ) → i < length numbers → x ≡ get_or numbers i x → x < length marks → ((n : ℕ) → IsTrue (is_marked marks n) ↔ (IsTrue (is_marked start n) ⊎ Contains (take i numbers) n)) → (n : ℕ) → IsTrue (is_marked (set marks x true) n) ↔ (IsTrue (is_marked start n) ⊎ Contains (take (i + 1) numbers) n)
mark_step start marks numbers i x within is room before n = rw (take_more numbers i x within, ← is) (to, from)
  where
    later : (IsTrue (is_marked start n) ⊎ Contains (take i numbers) n) → IsTrue (is_marked start n) ⊎ Contains (take i numbers ++ x ∷ []) n
    later (inl m) = inl m
    later (inr c) = inr (contains_more (take i numbers) x n c)

    new : x ≡ n → IsTrue (is_marked start n) ⊎ Contains (take i numbers ++ x ∷ []) n
    new e = inr (rw (← e) (Contains-push (take i numbers) x))

    to : IsTrue (is_marked (set marks x true) n) → IsTrue (is_marked start n) ⊎ Contains (take i numbers ++ x ∷ []) n
    to m = ⊎_elim (λ old. later ((before n).0 old)) (λ e. new e) (set_cases marks x n m)

    from : (IsTrue (is_marked start n) ⊎ Contains (take i numbers ++ x ∷ []) n) → IsTrue (is_marked (set marks x true) n)
    from (inl m) = set_keeps marks x n room ((before n).1 (inl m))
    from (inr c) =
        ⊎_elim (λ old. set_keeps marks x n room ((before n).1 (inr old))) (λ e. set_here marks x n (sym e) room) (Contains-push_cases (take i numbers) x n c)

-- ---- the walk

-- the marks once the lines from this place on were looked at
pub record MarkedFrom (constraints : ℕ) (lines : List Line) (place : ℕ) (marks : List Bool) : Type 0 where
  pub size : length marks ≡ constraints + length lines + 1
  pub ends : IsTrue (is_marked marks (constraints + length lines))
  pub sound : (n : ℕ) → IsTrue (is_marked marks n) → IsReached constraints lines n
  pub closed : (k h : ℕ) (d : Line) → place ≤ k → k < length lines → IsTrue (is_marked marks (constraints + k + 1)) → Contains (get_or lines k d).hints h → IsTrue (is_marked marks h)

none_marked : (size n : ℕ) → get_or (replicate size false) n false ≡ false
none_marked size n =
    ⊎_elim (λ lt. get_or-replicate size n false false lt) (λ ge. get_or_past (replicate size false) n false (rw (length-replicate {A = Bool}) ge)) (cases_lt n size)

-- the last line alone
pub marked_first : (constraints : ℕ) (lines : List Line) → MarkedFrom constraints lines (length lines) (set (replicate (constraints + length lines + 1) false) (constraints + length lines) true)
marked_first constraints lines = record { size = size; ends = ends; sound = sound; closed = λ k h d ge lt m c. absurd (omega arith) }
  where
    open_marks : List Bool
    open_marks = replicate (constraints + length lines + 1) false

    size : length (set (replicate (constraints + length lines + 1) false) (constraints + length lines) true) ≡ constraints + length lines + 1
    size = length-set (replicate (constraints + length lines + 1) false) (constraints + length lines) true ∙ length-replicate (constraints + length lines + 1) false

    ends : IsTrue (is_marked (set (replicate (constraints + length lines + 1) false) (constraints + length lines) true) (constraints + length lines))
    ends = set_here (replicate (constraints + length lines + 1) false) (constraints + length lines) (constraints + length lines) refl (omega (arith, length-replicate (constraints + length lines + 1) false))

    sound : (n : ℕ) → IsTrue (is_marked (set (replicate (constraints + length lines + 1) false) (constraints + length lines) true) n) → IsReached constraints lines n
    sound n m =
        ⊎_elim (λ old. absurd (false≢true (sym (none_marked (constraints + length lines + 1) n) ∙ old))) (λ e. rw (← e) last) (set_cases (replicate (constraints + length lines + 1) false) (constraints + length lines) n m)

-- a line that isn't reached adds nothing
pub marked_skip : (constraints : ℕ) (lines : List Line) (i : ℕ) (marks : List Bool) → is_marked marks (constraints + i + 1) ≡ false → MarkedFrom constraints lines (i + 1) marks → MarkedFrom constraints lines i marks
marked_skip constraints lines i marks unmarked from = record { size = from.size; ends = from.ends; sound = from.sound; closed = closed }
  where
    closed : (k h : ℕ) (d : Line) → i ≤ k → k < length lines → IsTrue (is_marked marks (constraints + k + 1)) → Contains (get_or lines k d).hints h → IsTrue (is_marked marks h)
    closed k h d ge lt m c = ⊎_elim (λ above. from.closed k h d (omega arith) lt m c) (λ here. absurd (same (omega arith) m)) (cases_lt i k)
      where
        same : k ≡ i → IsTrue (is_marked marks (constraints + k + 1)) → ⊥
        same e marked = false≢true (sym unmarked ∙ (rw e at marked))

-- a line that is reached adds its hints, which are all lower
pub marked_step : (constraints : ℕ) (lines : List Line) (i : ℕ) (l : Line) (before after : List Bool) → i < length lines → l ≡ get_or lines i l → is_marked before (constraints + i + 1) ≡ true → All (λ h. (0 < h) × (h ≤ constraints + i)) l.hints → length after ≡ length before → ((n : ℕ) → IsTrue (is_marked after n) ↔ (IsTrue (is_marked before n) ⊎ Contains l.hints n)) → MarkedFrom constraints lines (i + 1) before → MarkedFrom constraints lines i after
marked_step constraints lines i l before after within is marked lower size adds from = record { size = size ∙ from.size; ends = (adds (constraints + length lines)).1 (inl from.ends); sound = sound; closed = closed }
  where
    from_cases : (n : ℕ) → (IsTrue (is_marked before n) ⊎ Contains l.hints n) → IsReached constraints lines n
    from_cases n (inl m) = from.sound n m
    from_cases n (inr c) = hint i n l within (from.sound (constraints + i + 1) marked) (rw (← is) c)

    sound : (n : ℕ) → IsTrue (is_marked after n) → IsReached constraints lines n
    sound n m = from_cases n ((adds n).0 m)

    stays : (k : ℕ) → i ≤ k → (IsTrue (is_marked before (constraints + k + 1)) ⊎ Contains l.hints (constraints + k + 1)) → IsTrue (is_marked before (constraints + k + 1))
    stays k ge (inl m) = m
    stays k ge (inr c) =
        let low = All-contains (λ (h : ℕ). (0 < h) × (h ≤ constraints + i)) l.hints (constraints + k + 1) lower c in absurd (omega (arith, low.1, ge))

    at_line : (k : ℕ) (d : Line) → k ≡ i → get_or lines k d ≡ l
    at_line k d e = rw e (get_or_default lines i d l within ∙ sym is)

    closed : (k h : ℕ) (d : Line) → i ≤ k → k < length lines → IsTrue (is_marked after (constraints + k + 1)) → Contains (get_or lines k d).hints h → IsTrue (is_marked after h)
    closed k h d ge lt m c =
        let old : IsTrue (is_marked before (constraints + k + 1)) = stays k ge ((adds (constraints + k + 1)).0 m) in
        ⊎_elim (λ above. (adds h).1 (inl (from.closed k h d (omega arith) lt old c))) (λ here. (adds h).1 (inr (rw (at_line k d (omega arith)) at c))) (cases_lt i k)

-- all that is reached is marked in the end
pub marked_from_reached : (constraints : ℕ) (lines : List Line) (marks : List Bool) → MarkedFrom constraints lines 0 marks → (n : ℕ) → IsReached constraints lines n → IsTrue (is_marked marks n)
marked_from_reached constraints lines marks from n last = from.ends
marked_from_reached constraints lines marks from n (hint place number d within reached contains) =
    from.closed place n d (omega arith) within (marked_from_reached constraints lines marks from (constraints + place + 1) reached) contains

-- ---- the numbers that are marked

pub found_push : (marks : List Bool) (found : List ℕ) (number : ℕ) → 0 < number → is_marked marks number ≡ true → ((n : ℕ) → Contains found n ↔ ((0 < n) × (n < number) × IsTrue (is_marked marks n))) → (n : ℕ) → Contains (found ++ number ∷ []) n ↔ ((0 < n) × (n < number + 1) × IsTrue (is_marked marks n))
found_push marks found number some marked before n = (to, from)
  where
    to : Contains (found ++ number ∷ []) n → (0 < n) × (n < number + 1) × IsTrue (is_marked marks n)
    to c =
        ⊎_elim (λ old. let b = (before n).0 old in (b.0, omega (arith, b.1), b.2)) (λ e. (omega arith, omega arith, rw (← e) marked)) (Contains-push_cases found number n c)

    from : (0 < n) × (n < number + 1) × IsTrue (is_marked marks n) → Contains (found ++ number ∷ []) n
    from h =
        ⊎_elim (λ lt. contains_more found number n ((before n).1 (h.0, lt, h.2))) (λ ge. let e : n ≡ number = omega (arith, h.1, ge) in rw e (Contains-push found number)) (cases_lt n number)

pub found_skip : (marks : List Bool) (found : List ℕ) (number : ℕ) → is_marked marks number ≡ false → ((n : ℕ) → Contains found n ↔ ((0 < n) × (n < number) × IsTrue (is_marked marks n))) → (n : ℕ) → Contains found n ↔ ((0 < n) × (n < number + 1) × IsTrue (is_marked marks n))
found_skip marks found number unmarked before n = (to, from)
  where
    to : Contains found n → (0 < n) × (n < number + 1) × IsTrue (is_marked marks n)
    to c = let b = (before n).0 c in (b.0, omega (arith, b.1), b.2)

    other : n ≡ number → IsTrue (is_marked marks n) → ⊥
    other e m = false≢true (sym unmarked ∙ (rw e at m))

    from : (0 < n) × (n < number + 1) × IsTrue (is_marked marks n) → Contains found n
    from h =
        ⊎_elim (λ lt. (before n).1 (h.0, lt, h.2)) (λ ge. absurd (other (omega (arith, h.1, ge)) h.2)) (cases_lt n number)

pub rising_push : (found : List ℕ) (number : ℕ) → IsStrictlyIncreasing found → ((n : ℕ) → Contains found n → n < number) → IsStrictlyIncreasing (found ++ number ∷ [])
rising_push found number rising below k h =
    ⊎_elim (λ inside. rw (get_or_append_left found (number ∷ []) 0 k (omega arith), get_or_append_left found (number ∷ []) 0 (k + 1) inside) (rising k inside))
    (λ outside. let e : k + 1 ≡ length found = omega (arith, length_push found number, h, outside) in
    rw (get_or_append_left found (number ∷ []) 0 k (omega arith), e, get_or-append_seam found number [] 0) (below (get_or found k 0) (All-contains_itself found k 0 (omega arith)))) (cases_lt (k + 1) (length found))

-- ---- what is used refutes

abbrev none : AtLeast
none = record { terms = []; degree = 0 }

abbrev no_line : Line
no_line = record { clause = []; hints = [] }

pub earlier_hints : (variables : ℕ) (constraints : List Constraint) (lines : List Line) → CheckUpTo variables constraints lines (length lines) → HaveEarlierHints (length constraints) lines
earlier_hints variables constraints lines checks place d within k e h =
    let w = (checks place d within).hints k e h in
    (w.0, omega (arith, w.1, size))
  where
    size : length (database constraints (take place lines)) ≡ length constraints + place
    size = omega (arith, length-append (map at_least constraints) (map line_seen (take place lines)), length-map constraints at_least, length-map (take place lines) line_seen, length-take place lines, within)

pub reached_from_one : (constraints : ℕ) (lines : List Line) → 0 < length lines → HaveEarlierHints constraints lines → (n : ℕ) → IsReached constraints lines n → (0 < n) × (n ≤ constraints + length lines)
reached_from_one constraints lines some earlier n last = (omega arith, omega arith)
reached_from_one constraints lines some earlier n (hint place number d within reached contains) =
    let low = All-contains (λ (h : ℕ). (0 < h) × (h ≤ constraints + place)) (get_or lines place d).hints n (earlier place d within) contains in
    (low.0, omega (arith, low.1, within))

prefix : (cs : List AtLeast) (front back : List Line) (i : ℕ) (d : AtLeast) → i < length cs + length front → get_or (cs ++ map line_seen (front ++ back)) i d ≡ get_or (cs ++ map line_seen front) i d
prefix cs front back i d h =
    rw (map-append line_seen front back, ← append_assoc) (get_or_append_left (cs ++ map line_seen front) (map line_seen back) d i (omega (arith, length-append cs (map line_seen front), length-map front line_seen)))

-- hints mean the same over all lines as over those before
same_before : (constraints : List Constraint) (lines : List Line) (k h : ℕ) → k ≤ length lines → 0 < h → h ≤ length constraints + k → constraint_at (database constraints (take k lines)) h ≡ constraint_at (database constraints lines) h
same_before constraints lines k h within some low =
    sym (ap (λ (ls : List Line). get_or (map at_least constraints ++ map line_seen ls) (h - 1) none) (sym (take-append-drop k lines)) ∙ prefix (map at_least constraints) (take k lines) (drop k lines) (h - 1) none (omega (arith, length-take k lines, length-map constraints at_least)))

at_line_number : (constraints : List Constraint) (lines : List Line) (k : ℕ) → k < length lines → constraint_at (database constraints lines) (length constraints + k + 1) ≡ line_seen (get_or lines k no_line)
at_line_number constraints lines k within =
    let start : length constraints + k + 1 - 1 ≡ length constraints + k = omega arith in
    let after : length constraints + k - length constraints ≡ k = omega arith in
    rw start (get_or-append_right (map at_least constraints) (map line_seen lines) (length constraints) (length constraints + k) none (length-map constraints at_least) (omega arith) ∙ rw after (get_or-map line_seen lines k no_line none within))

at_constraint_number : (constraints : List Constraint) (lines : List Line) (n : ℕ) → 0 < n → n ≤ length constraints → constraint_at (database constraints lines) n ≡ constraint_at (map at_least constraints) n
at_constraint_number constraints lines n some within =
    get_or_append_left (map at_least constraints) (map line_seen lines) none (n - 1) (omega (arith, length-map constraints at_least))

named_satisfied : (cs : List AtLeast) (numbers : List ℕ) (full : ℕ → Bool) (n : ℕ) → SatisfiesAll full (hinted cs numbers) → Contains numbers n → IsSatisfied full (constraint_at cs n)
named_satisfied cs numbers full n satisfied c =
    let here : IsSatisfied full (get_or (hinted cs numbers) c.0 none) = satisfied c.0 none (omega (arith, c.1, length-map numbers (constraint_at cs))) in
    let at : get_or (hinted cs numbers) c.0 none ≡ constraint_at cs n = get_or-map (constraint_at cs) numbers c.0 n none c.1 ∙ ap (constraint_at cs) c.2 in
    rw at at here

-- a full assignment that satisfies what is used makes each line true that is reached, where the lower numbers hold
line_true : (variables : ℕ) (constraints : List Constraint) (lines : List Line) (full : ℕ → Bool) → CheckUpTo variables constraints lines (length lines) → (k : ℕ) → k < length lines → IsReached (length constraints) lines (length constraints + k + 1) → ((n : ℕ) → n < length constraints + k + 1 → 0 < n → IsReached (length constraints) lines n → IsSatisfied full (constraint_at (database constraints lines) n)) → MakesTrue full (get_or lines k no_line).clause
line_true variables constraints lines full checks k within reached lower =
    line_holds variables (database constraints (take k lines)) (get_or lines k no_line) full (checks k no_line within).conflict
    (All-map (IsSatisfied full) (constraint_at (database constraints (take k lines))) (get_or lines k no_line).hints each)
  where
    each : (j e : ℕ) → j < length (get_or lines k no_line).hints → IsSatisfied full (constraint_at (database constraints (take k lines)) (get_or (get_or lines k no_line).hints j e))
    each j e g =
        let low = earlier_hints variables constraints lines checks k no_line within j e g in
        let contains : Contains (get_or lines k no_line).hints (get_or (get_or lines k no_line).hints j e) = All-contains_itself (get_or lines k no_line).hints j e g in
        rw (same_before constraints lines k (get_or (get_or lines k no_line).hints j e) (omega arith) low.0 low.1) (lower (get_or (get_or lines k no_line).hints j e) (omega (arith, low.1)) low.0 (hint k (get_or (get_or lines k no_line).hints j e) no_line within reached contains))

reached_holds : (variables : ℕ) (constraints : List Constraint) (lines : List Line) (numbers : List ℕ) (full : ℕ → Bool) → 0 < length lines → CheckUpTo variables constraints lines (length lines) → ((n : ℕ) → Contains numbers n ↔ IsUsed (length constraints) lines n) → SatisfiesAll full (hinted (map at_least constraints) numbers) → (bound n : ℕ) → n < bound → 0 < n → IsReached (length constraints) lines n → IsSatisfied full (constraint_at (database constraints lines) n)
reached_holds variables constraints lines numbers full some checks exact satisfied zero n lt from_one reached = absurd (omega arith)
reached_holds variables constraints lines numbers full some checks exact satisfied (suc bound) n lt from_one reached =
    ⊎_elim (of_line (reached_holds variables constraints lines numbers full some checks exact satisfied bound)) of_problem (cases_lt (length constraints) n)
  where
    of_problem : n ≤ length constraints → IsSatisfied full (constraint_at (database constraints lines) n)
    of_problem within =
        rw (at_constraint_number constraints lines n from_one within) (named_satisfied (map at_least constraints) numbers full n satisfied ((exact n).1 (record { of_problem = within; reached = reached })))

    at_place : ((m : ℕ) → m < bound → 0 < m → IsReached (length constraints) lines m → IsSatisfied full (constraint_at (database constraints lines) m)) → (k : ℕ) → k < length lines → n ≡ length constraints + k + 1 → IsSatisfied full (constraint_at (database constraints lines) n)
    at_place lower k within e =
        rw (e, at_line_number constraints lines k within) (clause_from_true full (get_or lines k no_line).clause (line_true variables constraints lines full checks k within (rw e at reached) (λ m below some_m r. lower m (omega (arith, lt, e, below)) some_m r)))

    of_line : ((m : ℕ) → m < bound → 0 < m → IsReached (length constraints) lines m → IsSatisfied full (constraint_at (database constraints lines) m)) → length constraints < n → IsSatisfied full (constraint_at (database constraints lines) n)
    of_line lower above =
        let most = (reached_from_one (length constraints) lines some (earlier_hints variables constraints lines checks) n reached).1 in
        at_place lower (n - length constraints - 1) (omega (arith, most, above)) (omega (arith, above))

last_reached : (constraints : ℕ) (lines : List Line) → IsReached constraints lines (constraints + length lines)
last_reached constraints lines = last

pub used_refutes : (variables : ℕ) (constraints : List Constraint) (lines : List Line) (numbers : List ℕ) → 0 < length lines → CheckUpTo variables constraints lines (length lines) → ((n : ℕ) → Contains numbers n ↔ IsUsed (length constraints) lines n) → EndsEmpty lines → IsUnsatisfiable (hinted (map at_least constraints) numbers)
used_refutes variables constraints lines numbers some checks exact ends full satisfied =
    let number : length constraints + length lines ≡ length constraints + (length lines - 1) + 1 = omega arith in
    let reached : IsReached (length constraints) lines (length constraints + (length lines - 1) + 1) = rw number at (last_reached (length constraints) lines) in
    let true_last = line_true variables constraints lines full checks (length lines - 1) (omega arith) reached (λ m below some_m r. reached_holds variables constraints lines numbers full some checks exact satisfied (length constraints + (length lines - 1) + 1) m below some_m r) in
    false≢true (rw (ends.1 no_line) at true_last)

-- ---- what the calls say

pub used_exact : (constraints : ℕ) (lines : List Line) (marks : List Bool) (numbers : List ℕ) → 0 < length lines → HaveEarlierHints constraints lines → ((n : ℕ) → IsTrue (is_marked marks n) ↔ IsReached constraints lines n) → ((n : ℕ) → Contains numbers n ↔ ((0 < n) × (n ≤ constraints) × IsTrue (is_marked marks n))) → (n : ℕ) → Contains numbers n ↔ IsUsed constraints lines n
used_exact constraints lines marks numbers some earlier marked named n =
    (λ c. let w = (named n).0 c in record { of_problem = w.1; reached = (marked n).0 w.2 }, λ u. (named n).1 ((reached_from_one constraints lines some earlier n u.reached).0, u.of_problem, (marked n).1 u.reached))
