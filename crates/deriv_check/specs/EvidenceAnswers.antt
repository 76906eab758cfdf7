use Rattle.std.specs.Prelude.{◌≡◌, ℕ, ◌+◌, ⊤, List, Result, Ok, Err}
use Rattle.deriv_check.specs.EvidenceForm.{DenotesEvidence, IsFirstBadLine}
use Rattle.deriv_check.specs.declared.derivation.CheckFault.{CheckFault}
use Rattle.deriv_check.specs.declared.derivation.CheckFault.TheVariants as fault
use Rattle.deriv_check.specs.declared.derivation.Evidence.{Evidence}
use Rattle.deriv_check.specs.declared.derivation.Why.TheVariants as why
use Rattle.deriv_check.specs.declared.stop.Stop.{Stop}
use Rattle.deriv_check.specs.declared.stop.Stop.TheVariants as stop

-- What is answered for the whole lines of a text. Want of memory has no cause.
abbrev pub IsEvidenceAnswer : List (List ℕ) → Result Evidence CheckFault → Type 0
IsEvidenceAnswer lines (Ok e) = DenotesEvidence lines e
IsEvidenceAnswer lines (Err (fault.Bad line reason)) = (reason ≡ why.Text) × IsFirstBadLine lines line
IsEvidenceAnswer lines (Err fault.NoMemory) = ⊤

-- The same, where places are counted from 0. A clause of a private function alone cites this.
abbrev pub AnswersLines : List (List ℕ) → Result Evidence Stop → Type 0
AnswersLines lines (Ok e) = DenotesEvidence lines e × ((f : Evidence) → DenotesEvidence lines f → f ≡ e)
AnswersLines lines (Err (stop.At at)) = IsFirstBadLine lines (at + 1)
AnswersLines lines (Err stop.NoMemory) = ⊤
