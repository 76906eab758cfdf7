-- What an evidence that refutes uses, and its one text.
use Rattle.std.proofs.Common.{◌≡◌, ◌↔◌, ℕ, ◌+◌, ◌<◌, ◌≤◌, List, [], ◌∷◌, ◌++◌, length, All, Contains, sym, ap, ◌∙◌, arith}
use Rattle.std.specs.Prelude.{codes, slice_index_or}
use Rattle.std.proofs.lemmas.List.Elements.{All-contains, All-contains_itself}
use Rattle.std.proofs.lemmas.List.Kept.{AllPairs-from_increasing}
use Rattle.pb_rows.proofs.VariableLaws.{same_rising}
use Rattle.deriv_check.specs.EvidenceText.{evidence_text}
use Rattle.deriv_check.specs.Used.{IsReached, last, hint, IsUsed, HaveEarlierHints}
use Rattle.deriv_check.specs.declared.derivation.Evidence.{Evidence}
use Rattle.deriv_check.specs.declared.derivation.Line.{Line}
use Rattle.deriv_check.proofs.UsedLaws.{earlier_hints}
use Rattle.director_plan.specs.EvidenceLines.{Refutes, IsUnsatisfiableText, because_lines}

pub one_text : (e : Evidence) (a b : List ℕ) → IsUnsatisfiableText e a → IsUnsatisfiableText e b → a ≡ b
one_text e a b s t =
    let numbers : s.numbers ≡ t.numbers =
    same_rising s.numbers t.numbers (AllPairs-from_increasing s.numbers s.used.rising) (AllPairs-from_increasing t.numbers t.used.rising)
    (λ n h. (t.used.exact n).1 ((s.used.exact n).0 h)) (λ n h. (s.used.exact n).1 ((t.used.exact n).0 h)) in
    s.spelling ∙ ap (λ (ns : List ℕ). (codes "unsatisfiable" ++ 10 ∷ []) ++ (evidence_text e ++ because_lines e.problem ns)) numbers ∙ sym t.spelling

-- Numbers that are reached are from 1.
from_one : (constraints : ℕ) (lines : List Line) → 0 < length lines → HaveEarlierHints constraints lines → (n : ℕ) → IsReached constraints lines n → 0 < n
from_one constraints lines some earlier n (last) = omega (arith, some)
from_one constraints lines some earlier n (hint place number d within reached has) =
    (All-contains (λ h. (0 < h) × (h ≤ constraints + place)) (slice_index_or lines place d).hints n (earlier place d within) has).0

pub used_within : (e : Evidence) (numbers : List ℕ) → Refutes e → ((n : ℕ) → Contains numbers n ↔ IsUsed (length e.problem.constraints) e.derivation.lines n) → All (λ n. (0 < n) × (n ≤ length e.problem.constraints)) numbers
used_within e numbers refutes exact k d h =
    let used = (exact (slice_index_or numbers k d)).0 (All-contains_itself numbers k d h) in
    let earlier = earlier_hints (length e.problem.labels) e.problem.constraints e.derivation.lines refutes.checks in
    (from_one (length e.problem.constraints) e.derivation.lines refutes.ends.0 earlier (slice_index_or numbers k d) used.reached, used.of_problem)
