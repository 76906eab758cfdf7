use Rattle.std.proofs.Common.{◌≡◌, ◌+◌, ℕ, List, [], Bor, Result, Ok, Err, length, drop, subst, sym, ap, ◌∙◌, arith}
use Rattle.std.proofs.lemmas.List.{take_rest}
use Rattle.pb_core.specs.declared.constraint.Problem.{Problem}
use Rattle.deriv_check.specs.EvidenceForm.{IsProblem, IsDerivation, IsEvidence}
use Rattle.deriv_check.specs.EvidenceText.{problem_lines, derivation_lines, evidence_lines}
use Rattle.deriv_check.specs.Reading.{Parses, stop_behind, seen}
use Rattle.deriv_check.specs.declared.derivation.Derivation.{Derivation}
use Rattle.deriv_check.specs.declared.stop.Stop.{Stop}
use Rattle.deriv_check.proofs.FormLaws.{begun-pair, begun-along}
use Rattle.deriv_check.proofs.EvidenceLaws.{pair_first, pair_second, stops_same, seen-drop, IsBoth, both_lines, evidence_of, both_of, same_evidence, length-problem_lines, spare_derivation_is}
use Rattle.deriv_check.proofs.evidence_reader.read_lines.Goals as goal

behind_problem : (lines : List (Bor (List ℕ))) (p : Problem) (k : ℕ) (r : Result Derivation Stop) → k ≡ 1 + length p.labels + length p.constraints
    → Parses IsDerivation derivation_lines (seen (drop k lines)) r → Parses IsDerivation derivation_lines (drop (length (problem_lines p)) (seen lines)) r
behind_problem lines p k r n h =
    let place : k ≡ length (problem_lines p) = n ∙ sym (length-problem_lines p) in
    subst (λ (l : List (List ℕ)). Parses IsDerivation derivation_lines l r) (seen-drop lines k ∙ ap (λ j. drop j (seen lines)) place) h

pub returns-in-Err : goal.returns-in-Err
returns-in-Err c =
    stops_same IsBoth both_lines IsEvidence evidence_lines evidence_of both_of same_evidence (seen c.args.lines.now) c.in-Err.stop
    (pair_first IsProblem (λ p. IsDerivation) problem_lines derivation_lines (seen c.args.lines.now) c.in-Err.stop (λ p. record { lines = [] }) (λ p h. spare_derivation_is) c.in-Err.ensures)

pub returns-in-Ok-read_derivation : goal.returns-in-Ok-read_derivation
returns-in-Ok-read_derivation c =
    let p : Problem = c.in-Ok.problem in
    let k = 1 + c.len.result + c.len-2.result in
    let n : k ≡ 1 + length p.labels + length p.constraints = omega (arith, c.len.ensures, c.len-2.ensures) in
    begun-along IsBoth both_lines IsEvidence evidence_lines evidence_of both_of same_evidence (seen c.args.lines.now) (p, c.in-Ok-read_derivation.derivation)
    (begun-pair IsProblem (λ q. IsDerivation) problem_lines derivation_lines (seen c.args.lines.now) p c.in-Ok-read_derivation.derivation c.in-Ok.ensures
    (behind_problem c.args.lines.now p k (Ok c.in-Ok-read_derivation.derivation) n (rw take_rest at c.in-Ok-read_derivation.ensures)))

pub returns-in-Err-read_derivation : goal.returns-in-Err-read_derivation
returns-in-Err-read_derivation c =
    let p : Problem = c.in-Ok.problem in
    let k = 1 + c.len.result + c.len-2.result in
    let n : k ≡ 1 + length p.labels + length p.constraints = omega (arith, c.len.ensures, c.len-2.ensures) in
    subst (λ (s : Stop). Parses IsEvidence evidence_lines (seen c.args.lines.now) (Err s))
    (ap (λ j. stop_behind j c.in-Err-read_derivation.stop) (length-problem_lines p ∙ sym n) ∙ sym c.behind.ensures)
    (stops_same IsBoth both_lines IsEvidence evidence_lines evidence_of both_of same_evidence (seen c.args.lines.now) (stop_behind (length (problem_lines p)) c.in-Err-read_derivation.stop)
    (pair_second IsProblem (λ q. IsDerivation) problem_lines derivation_lines (seen c.args.lines.now) p c.in-Err-read_derivation.stop c.in-Ok.ensures
    (behind_problem c.args.lines.now p k (Err c.in-Err-read_derivation.stop) n
    (subst (λ (l : List (Bor (List ℕ))). Parses IsDerivation derivation_lines (seen l) (Err c.in-Err-read_derivation.stop)) (take_rest c.args.lines.now k) c.in-Err-read_derivation.ensures))))
