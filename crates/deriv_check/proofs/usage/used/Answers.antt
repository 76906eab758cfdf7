use Rattle.std.proofs.Common.{ℕ, List, length, Result, Ok, Err, IfOk}
use Rattle.deriv_check.proofs.UsedLaws.{earlier_hints, used_exact, used_refutes}
use Rattle.deriv_check.proofs.usage.used.Goals as goal

if_ok : {E : Type 0} (r : Result (List ℕ) E) (P Q : List ℕ → Type 0) → ((x : List ℕ) → P x → Q x) → IfOk r P → IfOk r Q
if_ok (Ok x) P Q f h = f x h
if_ok (Err e) P Q f h = tt

pub returns-clause-exact : goal.returns-clause-exact
returns-clause-exact c =
    let earlier = earlier_hints (length c.args.problem.now.labels) c.args.problem.now.constraints c.args.derivation.now.lines c.requires.checks in
    let marked = rw (c.len-constraints.ensures, c.items.ensures) at c.in_ok-marks.ensures.exact in
    let named = rw (c.as_slice.ensures.value, c.len-constraints.ensures) at c.marked_up_to.ensures.exact in
    if_ok c.marked_up_to.result _ _ (λ (numbers : List ℕ) h. used_exact (length c.args.problem.now.constraints) c.args.derivation.now.lines c.in_ok-marks.marks.items numbers c.requires.some earlier marked h) named

pub returns-clause-refutes : goal.returns-clause-refutes
returns-clause-refutes c =
    let earlier = earlier_hints (length c.args.problem.now.labels) c.args.problem.now.constraints c.args.derivation.now.lines c.requires.checks in
    let marked = rw (c.len-constraints.ensures, c.items.ensures) at c.in_ok-marks.ensures.exact in
    let named = rw (c.as_slice.ensures.value, c.len-constraints.ensures) at c.marked_up_to.ensures.exact in
    if_ok c.marked_up_to.result _ _ (λ (numbers : List ℕ) h. used_refutes (length c.args.problem.now.labels) c.args.problem.now.constraints c.args.derivation.now.lines numbers c.requires.some c.requires.checks (used_exact (length c.args.problem.now.constraints) c.args.derivation.now.lines c.in_ok-marks.marks.items numbers c.requires.some earlier marked h)) named
