-- The line that may stand before an evidence.
use Rattle.std.proofs.Common.{◌≡◌, ℕ, ◌+◌, ◌-◌, ◌<◌, arith, suc, List, [], ◌∷◌, ◌++◌, length, take, drop, Result, Ok, Err, refl, sym, ap, subst, ◌∙◌}
use Rattle.std.specs.Fmt.{decimal}
use Rattle.std.proofs.lemmas.List.{append-nil}
use Rattle.deriv_check.specs.declared.derivation.Evidence.{Evidence}
use Rattle.deriv_check.specs.declared.stop.Stop.{Stop}
use Rattle.deriv_check.specs.declared.stop.Stop.TheVariants as stop
use Rattle.deriv_check.specs.EvidenceAnswers.{AnswersLines}
use Rattle.deriv_check.specs.EvidenceForm.{IsEvidence, BeginsProblem, IsSkipped, DenotesEvidence}
use Rattle.deriv_check.specs.EvidenceText.{problem_line, evidence_lines}
use Rattle.deriv_check.specs.Reading.{Parses, stop_behind}

problem_begins : (counts : ℕ × ℕ) → BeginsProblem (problem_line counts)
unfolding problem_line
problem_begins counts = (decimal counts.0 ++ ((32 ∷ decimal counts.1) ++ []), refl)

-- the first line, if there is one, begins a problem
abbrev pub IsPlain : List (List ℕ) → Type 0
IsPlain lines = (s : List ℕ) (rest : List (List ℕ)) → lines ≡ s ∷ rest → BeginsProblem s

unskip : (whole skipped tail : List (List ℕ)) → IsPlain whole → IsSkipped skipped → whole ≡ skipped ++ tail → whole ≡ tail
unskip whole [] tail plain skips e = e
unskip whole (s ∷ []) tail plain skips e = absurd (skips (plain s tail e))
unskip whole (s ∷ t ∷ more) tail plain skips e = absurd skips

plain_denotes : (whole : List (List ℕ)) (e : Evidence) → IsPlain whole → (d : DenotesEvidence whole e) → whole ≡ evidence_lines e ++ d.behind
plain_denotes whole e plain d = unskip whole d.skipped (evidence_lines e ++ d.behind) plain d.skips d.spelling

plain_take : (lines more : List (List ℕ)) (n : ℕ) → n < length lines → IsPlain lines → IsPlain (take (n + 1) lines ++ more)
plain_take [] more n h plain s rest e = absurd (omega arith)
plain_take (l ∷ lines) more n h plain s rest e =
    let next : suc n ≡ n + 1 = omega arith in
    let whole : l ∷ (take n lines ++ more) ≡ s ∷ rest = ap (λ k. take k (l ∷ lines) ++ more) next ∙ e in
    let same : l ≡ s = cc in
    subst BeginsProblem same (plain l lines refl)

plain_is : (lines behind : List (List ℕ)) (e : Evidence) → IsEvidence e → lines ≡ evidence_lines e ++ behind → DenotesEvidence lines e
plain_is lines behind e form is = record { skipped = []; behind = behind; spelling = is; skips = tt; form = form }

pub answers_plain : (lines : List (List ℕ)) (r : Result Evidence Stop) → IsPlain lines → Parses IsEvidence evidence_lines lines r → AnswersLines lines r
answers_plain lines (Ok e) plain h = (
  plain_is lines _ e h.valid h.spelled,
  λ f d. h.only f d.behind (drop (length (evidence_lines e)) lines) d.form (sym (plain_denotes lines f plain d) ∙ h.spelled),
)
answers_plain lines (Err (stop.At at)) plain h =
    let back : at + 1 - 1 ≡ at = omega arith in
    record {
      from_one = omega arith;
      within = omega (arith, h.within);
      before = record {
        more = h.before.more;
        evidence = h.before.value;
        denotes = plain_is _ [] h.before.value h.before.valid (ap (λ k. take k lines ++ h.before.more) back ∙ h.before.spelled ∙ sym (append-nil (evidence_lines h.before.value)));
      };
      fails = λ within b. h.fails (omega (arith, within)) b.evidence b.more b.denotes.behind b.denotes.form
          (plain_denotes (take (at + 1) lines ++ b.more) b.evidence (plain_take lines b.more at (omega (arith, within)) plain) b.denotes);
      refused = λ e d. h.refused e d.behind d.form (plain_denotes lines e plain d);
    }
answers_plain lines (Err stop.NoMemory) plain h = tt

-- behind a line that is skipped
unskipped : (s : List ℕ) (whole skipped tail : List (List ℕ)) (e : Evidence) (behind : List (List ℕ)) → (BeginsProblem s → ⊥) → IsSkipped skipped → tail ≡ evidence_lines e ++ behind
    → s ∷ whole ≡ skipped ++ tail → whole ≡ tail
unskipped s whole [] tail e behind other skips is h =
    let both = h ∙ is in
    let same : s ≡ problem_line (length e.problem.labels, length e.problem.constraints) = cc in
    absurd (other (subst BeginsProblem (sym same) (problem_begins (length e.problem.labels, length e.problem.constraints))))
unskipped s whole (t ∷ []) tail e behind other skips is h = cc
unskipped s whole (t ∷ u ∷ more) tail e behind other skips is h = absurd skips

skipped_denotes : (s : List ℕ) (whole : List (List ℕ)) (e : Evidence) → (BeginsProblem s → ⊥) → (d : DenotesEvidence (s ∷ whole) e) → whole ≡ evidence_lines e ++ d.behind
skipped_denotes s whole e other d = unskipped s whole d.skipped (evidence_lines e ++ d.behind) e d.behind other d.skips refl d.spelling

skipped_is : (s : List ℕ) (lines behind : List (List ℕ)) (e : Evidence) → (BeginsProblem s → ⊥) → IsEvidence e → lines ≡ evidence_lines e ++ behind → DenotesEvidence (s ∷ lines) e
skipped_is s lines behind e other form is = record { skipped = s ∷ []; behind = behind; spelling = ap (λ l. s ∷ l) is; skips = other; form = form }

pub skipped_found : (s : List ℕ) (lines : List (List ℕ)) (e : Evidence) → (BeginsProblem s → ⊥) → Parses IsEvidence evidence_lines lines (Ok e) → AnswersLines (s ∷ lines) (Ok e)
skipped_found s lines e other h = (
  skipped_is s lines (drop (length (evidence_lines e)) lines) e other h.valid h.spelled,
  λ f d. h.only f d.behind (drop (length (evidence_lines e)) lines) d.form (sym (skipped_denotes s lines f other d) ∙ h.spelled),
)

pub skipped_stops : (s : List ℕ) (lines : List (List ℕ)) (r : Stop) → (BeginsProblem s → ⊥) → Parses IsEvidence evidence_lines lines (Err r) → AnswersLines (s ∷ lines) (Err (stop_behind 1 r))
skipped_stops s lines (stop.At at) other h =
    let back : suc at ≡ 1 + at + 1 - 1 = omega arith in
    let next : suc (at + 1) ≡ 1 + at + 1 = omega arith in
    record {
      from_one = omega arith;
      within = omega (arith, h.within);
      before = record {
        more = h.before.more;
        evidence = h.before.value;
        denotes = subst (λ k. DenotesEvidence (take k (s ∷ lines) ++ h.before.more) h.before.value) back
            (skipped_is s (take at lines ++ h.before.more) [] h.before.value other h.before.valid (h.before.spelled ∙ sym (append-nil (evidence_lines h.before.value))));
      };
      fails = λ within b.
          let d = subst (λ k. DenotesEvidence (take k (s ∷ lines) ++ b.more) b.evidence) (sym next) b.denotes in
          h.fails (omega (arith, within)) b.evidence b.more d.behind d.form (skipped_denotes s (take (at + 1) lines ++ b.more) b.evidence other d);
      refused = λ e d. h.refused e d.behind d.form (skipped_denotes s lines e other d);
    }
skipped_stops s lines stop.NoMemory other h = tt
