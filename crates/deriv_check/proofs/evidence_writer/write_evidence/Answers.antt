use Rattle.std.proofs.Common.{◌≡◌, ℕ, List, Result, Ok, Err, IfOk, ◌∙◌}
use Rattle.deriv_check.specs.declared.derivation.Evidence.{Evidence}
use Rattle.deriv_check.specs.EvidenceForm.{IsEvidence, DenotesEvidence, whole_lines}
use Rattle.deriv_check.specs.EvidenceText.{evidence_text}
use Rattle.deriv_check.proofs.WritingLaws.{evidence_denotes, evidence_ascii}
use Rattle.deriv_check.proofs.evidence_writer.write_evidence.Goals as goal

text_is : {E : Type 0} (e : Evidence) (bytes : List ℕ) (r : Result (List ℕ) E) → bytes ≡ evidence_text e → IfOk r (λ text. text ≡ bytes) → IfOk r (λ text. text ≡ evidence_text e)
text_is e bytes (Ok text) is h = h ∙ is
text_is e bytes (Err f) is h = tt

text_denotes : {E : Type 0} (e : Evidence) (bytes : List ℕ) (r : Result (List ℕ) E) → IsEvidence e → bytes ≡ evidence_text e → IfOk r (λ text. text ≡ bytes)
    → IfOk r (λ text. DenotesEvidence (whole_lines text) e)
text_denotes e bytes (Ok text) form is h = evidence_denotes e text form (h ∙ is)
text_denotes e bytes (Err f) form is h = tt

pub from_ascii-requires : goal.from_ascii-requires
from_ascii-requires c = evidence_ascii c.args.evidence.now c.deref.result.now c.in_ok-text.ensures.form (c.deref.ensures.value ∙ c.in_ok-text.ensures.text)

pub returns-clause-text : goal.returns-clause-text
returns-clause-text c =
    text_is c.args.evidence.now c.deref.result.now c.from_ascii.result (c.deref.ensures.value ∙ c.in_ok-text.ensures.text) c.from_ascii.ensures

pub returns-clause-denotes : goal.returns-clause-denotes
returns-clause-denotes c =
    text_denotes c.args.evidence.now c.deref.result.now c.from_ascii.result c.in_ok-text.ensures.form (c.deref.ensures.value ∙ c.in_ok-text.ensures.text) c.from_ascii.ensures
