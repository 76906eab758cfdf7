-- Kept slacks, through each change.
use Rattle.std.proofs.Common.{◌≡◌, ◌≢◌, ℕ, zero, suc, ◌+◌, ◌<◌, ◌≤◌, Bool, true, false, not, cond, eqb, ltb, List, [], ◌∷◌, ◌++◌, length, get_or, count_by, Option, Some, None, All, refl, sym, ap, ◌∙◌, inl, inr, ◌⊎◌, append_assoc, arith}
use Rattle.std.proofs.lemmas.Bool.Decides.{nat_tests, eqb_tells}
use Rattle.std.proofs.lemmas.List.{length-append, append-nil}
use Rattle.std.proofs.lemmas.List.Elements.{All-nil, All-cons, All-append}
use Rattle.std.proofs.lemmas.List.Sums.{sum_by-cons, sum_by-append, sum_by-le-sum_by}
use Rattle.pb_core.specs.AtLeast.{AtLeast}
use Rattle.pb_core.specs.Literal.{complement, same_literal, same_truth}
use Rattle.pb_core.specs.Occurrences.{coefficient, holds_literal, own_occurrence, occurrences_from}
use Rattle.pb_core.specs.Shares.{share_at, AreNumbered}
use Rattle.pb_core.specs.Slack.{reachable, coef_sum}
use Rattle.pb_core.specs.Values.{value_of, has_truth, is_false}
use Rattle.pb_core.specs.declared.literal.Lit.{Lit}
use Rattle.pb_core.specs.declared.literal.Term.{Term}
use Rattle.pb_core.specs.declared.occurrences.Occurrence.{Occurrence}

-- ---- one literal that gets a truth

none_false : (o : Option Bool) (p : Bool) → o ≡ None → has_truth o p ≡ false
none_false o p e = rw e refl

at_literal : (p q : Bool) (n : ℕ) → cond (same_truth p (not q)) 0 n + cond (same_truth q (not p)) n 0 ≡ n
at_literal true true n = omega arith
at_literal true false n = omega arith
at_literal false true n = omega arith
at_literal false false n = omega arith

module _ (before after : List (Option Bool)) (lit : Lit) (was_open : value_of before lit.variable ≡ None) (now : value_of after lit.variable ≡ Some lit.positive) (others : (u : ℕ) → u ≢ lit.variable → value_of after u ≡ value_of before u) where
  term_change : (t : Term) → cond (is_false after t.lit) 0 t.coef + cond (same_literal t.lit (complement lit)) t.coef 0 ≡ cond (is_false before t.lit) 0 t.coef
  term_change t = by (eqb t.lit.variable lit.variable) (eqb_tells t.lit.variable lit.variable) refl
    where
      by : (b : Bool) → ((b ≡ true) × (t.lit.variable ≡ lit.variable)) ⊎ ((b ≡ false) × (t.lit.variable ≢ lit.variable)) → eqb t.lit.variable lit.variable ≡ b → cond (is_false after t.lit) 0 t.coef + cond (same_literal t.lit (complement lit)) t.coef 0 ≡ cond (is_false before t.lit) 0 t.coef
      by b (inl h) e =
          let later : value_of after t.lit.variable ≡ Some lit.positive = rw h.1 now in
          let earlier : value_of before t.lit.variable ≡ None = rw h.1 was_open in
          let test : eqb t.lit.variable lit.variable ≡ true = e ∙ h.0 in
          rw (later, earlier, test) (at_literal lit.positive t.lit.positive t.coef)
      by b (inr h) e =
          let same = others t.lit.variable h.1 in
          let test : eqb t.lit.variable lit.variable ≡ false = e ∙ h.0 in
          rw (same, test) (omega arith)

  pub reachable_change : (terms : List Term) → reachable after terms + coefficient (complement lit) terms ≡ reachable before terms
  reachable_change [] = refl
  reachable_change (t ∷ terms) =
      let rest = reachable_change terms in
      let here = term_change t in
      let one = sum_by-cons (λ (u : Term). cond (is_false after u.lit) 0 u.coef) t terms in
      let two = sum_by-cons (λ (u : Term). cond (same_literal u.lit (complement lit)) u.coef 0) t terms in
      let three = sum_by-cons (λ (u : Term). cond (is_false before u.lit) 0 u.coef) t terms in
      omega arith

-- ---- coefficients are part of the sum

part : (b : Bool) (n : ℕ) → cond b n 0 ≤ n
part true n = omega arith
part false n = omega arith

other_part : (b : Bool) (n : ℕ) → cond b 0 n ≤ n
other_part true n = omega arith
other_part false n = omega arith

pub coefficient-le : (lit : Lit) (terms : List Term) → coefficient lit terms ≤ coef_sum terms
coefficient-le lit terms = sum_by-le-sum_by (λ (u : Term). cond (same_literal u.lit lit) u.coef 0) (λ (u : Term). u.coef) terms (λ u. part (same_literal u.lit lit) u.coef)

pub reachable-le : (values : List (Option Bool)) (terms : List Term) → reachable values terms ≤ coef_sum terms
reachable-le values terms = sum_by-le-sum_by (λ (u : Term). cond (is_false values u.lit) 0 u.coef) (λ (u : Term). u.coef) terms (λ u. other_part (is_false values u.lit) u.coef)

-- ---- occurrences of one constraint after the other

own_length : (number : ℕ) (lit : Lit) (c : AtLeast) → length (own_occurrence number lit c.terms) ≡ cond (holds_literal lit c) 1 0
own_length number lit c = by (ltb 0 (coefficient lit c.terms)) refl
  where
    by : (b : Bool) → ltb 0 (coefficient lit c.terms) ≡ b → length (own_occurrence number lit c.terms) ≡ cond (holds_literal lit c) 1 0
    by true e = rw e refl
    by false e = rw e refl

pub length-occurrences_from : (number : ℕ) (lit : Lit) (cs : List AtLeast) → length (occurrences_from number lit cs) ≡ count_by (holds_literal lit) cs
length-occurrences_from number lit [] = refl
length-occurrences_from number lit (c ∷ cs) =
    let rest = length-occurrences_from (number + 1) lit cs in
    let own = own_length number lit c in
    let both = length-append (own_occurrence number lit c.terms) (occurrences_from (number + 1) lit cs) in
    let count = sum_by-cons (λ (x : AtLeast). cond (holds_literal lit x) 1 0) c cs in
    omega arith

pub occurrences_from-push : (number : ℕ) (lit : Lit) (cs : List AtLeast) (c : AtLeast) → occurrences_from number lit (cs ++ c ∷ []) ≡ occurrences_from number lit cs ++ own_occurrence (number + length cs) lit c.terms
occurrences_from-push number lit [] c = rw (append-nil (own_occurrence number lit c.terms)) (ap (λ n. own_occurrence n lit c.terms) (omega arith))
occurrences_from-push number lit (d ∷ cs) c =
    let rest = occurrences_from-push (number + 1) lit cs c in
    let same : number + 1 + length cs ≡ number + suc (length cs) = omega arith in
    rw (rest, same, append_assoc) refl

own_share : (m number : ℕ) (lit : Lit) (terms : List Term) → share_at m (own_occurrence number lit terms) ≡ cond (eqb number m) (coefficient lit terms) 0
own_share m number lit terms = by (ltb 0 (coefficient lit terms)) refl
  where
    zero_one : (b : Bool) (n : ℕ) → n ≡ 0 → 0 ≡ cond b n 0
    zero_one true n e = sym e
    zero_one false n e = refl

    by : (b : Bool) → ltb 0 (coefficient lit terms) ≡ b → share_at m (own_occurrence number lit terms) ≡ cond (eqb number m) (coefficient lit terms) 0
    by true e = rw e (omega arith)
    by false e = rw e (zero_one (eqb number m) (coefficient lit terms) (grind (arith, nat_tests)))

share_below : (m number : ℕ) (lit : Lit) (cs : List AtLeast) → m < number → share_at m (occurrences_from number lit cs) ≡ 0
share_below m number lit [] below = refl
share_below m number lit (c ∷ cs) below =
    let rest = share_below m (number + 1) lit cs (omega arith) in
    let own = own_share m number lit c.terms in
    let test : eqb number m ≡ false = grind (arith, nat_tests) in
    let none : share_at m (own_occurrence number lit c.terms) ≡ 0 = rw test at own in
    let both = sum_by-append (λ (o : Occurrence). cond (eqb o.number m) o.coef 0) (own_occurrence number lit c.terms) (occurrences_from (number + 1) lit cs) in
    omega arith

pub share-occurrences_from : (k number : ℕ) (lit : Lit) (cs : List AtLeast) (d : AtLeast) → k < length cs → share_at (number + k) (occurrences_from number lit cs) ≡ coefficient lit (get_or cs k d).terms
share-occurrences_from k number lit [] d within = absurd (omega arith)
share-occurrences_from zero number lit (c ∷ cs) d within =
    let rest = share_below (number + 0) (number + 1) lit cs (omega arith) in
    let own = own_share (number + 0) number lit c.terms in
    let test : eqb number (number + 0) ≡ true = grind (arith, nat_tests) in
    let all : share_at (number + 0) (own_occurrence number lit c.terms) ≡ coefficient lit c.terms = rw test at own in
    let both = sum_by-append (λ (o : Occurrence). cond (eqb o.number (number + 0)) o.coef 0) (own_occurrence number lit c.terms) (occurrences_from (number + 1) lit cs) in
    omega arith
share-occurrences_from (suc k) number lit (c ∷ cs) d within =
    let same : number + suc k ≡ number + 1 + k = omega arith in
    let rest = share-occurrences_from k (number + 1) lit cs d (omega arith) in
    let own = own_share (number + 1 + k) number lit c.terms in
    let test : eqb number (number + 1 + k) ≡ false = grind (arith, nat_tests) in
    let none : share_at (number + 1 + k) (own_occurrence number lit c.terms) ≡ 0 = rw test at own in
    let both = sum_by-append (λ (o : Occurrence). cond (eqb o.number (number + 1 + k)) o.coef 0) (own_occurrence number lit c.terms) (occurrences_from (number + 1) lit cs) in
    rw same (omega arith)

own_numbered : (low high number : ℕ) (lit : Lit) (terms : List Term) → low ≤ number → number ≤ high → All (λ o. (low ≤ o.number) × (o.number ≤ high)) (own_occurrence number lit terms)
own_numbered low high number lit terms h k = by (ltb 0 (coefficient lit terms)) refl
  where
    by : (b : Bool) → ltb 0 (coefficient lit terms) ≡ b → All (λ o. (low ≤ o.number) × (o.number ≤ high)) (own_occurrence number lit terms)
    by true e = rw e (All-cons (λ (o : Occurrence). (low ≤ o.number) × (o.number ≤ high)) (record { number = number; coef = coefficient lit terms }) [] (h, k) (All-nil (λ (o : Occurrence). (low ≤ o.number) × (o.number ≤ high))))
    by false e = rw e (All-nil (λ (o : Occurrence). (low ≤ o.number) × (o.number ≤ high)))

numbered_from : (low high number : ℕ) (lit : Lit) (cs : List AtLeast) → low ≤ number → number + length cs ≤ high + 1 → All (λ o. (low ≤ o.number) × (o.number ≤ high)) (occurrences_from number lit cs)
numbered_from low high number lit [] h k = All-nil (λ (o : Occurrence). (low ≤ o.number) × (o.number ≤ high))
numbered_from low high number lit (c ∷ cs) h k =
    All-append (λ (o : Occurrence). (low ≤ o.number) × (o.number ≤ high)) (own_occurrence number lit c.terms) (occurrences_from (number + 1) lit cs) (own_numbered low high number lit c.terms h (omega arith)) (numbered_from low high (number + 1) lit cs (omega arith) (omega arith))

pub occurrences_numbered : (lit : Lit) (cs : List AtLeast) → AreNumbered (length cs) (occurrences_from 1 lit cs)
occurrences_numbered lit cs = numbered_from 1 (length cs) 1 lit cs (omega arith) (omega arith)
