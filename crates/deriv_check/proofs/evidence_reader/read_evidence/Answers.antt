use Rattle.std.proofs.Common.{◌≡◌, ◌∙◌, ℕ, List, inl, Ok, Err, ap, sym, subst}
use Rattle.deriv_check.specs.EvidenceAnswers.{AnswersLines}
use Rattle.deriv_check.specs.EvidenceForm.{DenotesEvidence, whole_lines}
use Rattle.deriv_check.specs.declared.stop.Stop.{Stop}
use Rattle.deriv_check.specs.Reading.{seen}
use Rattle.deriv_check.proofs.evidence_reader.read_evidence.Goals as goal

pub returns-in-Ok-clause-only : goal.returns-in-Ok-clause-only
returns-in-Ok-clause-only c = λ e d.
    let lines : seen c.deref.result.now ≡ whole_lines c.args.text.now = ap seen c.deref.ensures.value ∙ c.in_ok-lines.ensures in
    inl (ap Ok (sym (c.in-Ok.ensures.1 e (subst (λ (l : List (List ℕ)). DenotesEvidence l e) (sym lines) d))))

pub returns-in-Err-At-clause-only : goal.returns-in-Err-At-clause-only
returns-in-Err-At-clause-only c = λ e d.
    let lines : seen c.deref.result.now ≡ whole_lines c.args.text.now = ap seen c.deref.ensures.value ∙ c.in_ok-lines.ensures in
    let bad = subst (λ (s : Stop). AnswersLines (seen c.deref.result.now) (Err s)) c.in-Err-At.field-0-is c.in-Err-At.ensures in
    absurd (bad.refused e (subst (λ (l : List (List ℕ)). DenotesEvidence l e) (sym lines) d))
