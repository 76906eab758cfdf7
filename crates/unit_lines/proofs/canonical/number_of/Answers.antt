use Rattle.std.proofs.Common.{◌≡◌, Ok, ap, sym, ◌∙◌, arith, decimal}
use Rattle.unit_lines.proofs.Numerals.{parsed}
use Rattle.unit_lines.proofs.WordLemmas.{differ}
use Rattle.unit_lines.proofs.canonical.number_of.Goals as goal

pub returns-in_default : goal.returns-in_default
returns-in_default c = λ n small same.
    c.in_default.not-Ok n (parsed n c.as_str.result.now c.parse.result small (same ∙ sym c.as_str.ensures) c.parse.ensures.value.0)

pub returns-then-number-gt-MOST : goal.returns-then-number-gt-MOST
returns-then-number-gt-MOST c = λ n small same.
    let both : Ok c.in-Ok.number ≡ Ok n = sym c.in-Ok.is ∙ parsed n c.as_str.result.now c.parse.result small (same ∙ sym c.as_str.ensures) c.parse.ensures.value.0 in
    let equal : c.in-Ok.number ≡ n = cc in
    omega (arith, equal, small)

pub returns : goal.returns
returns c = λ n small same.
    let both : Ok c.in-Ok.number ≡ Ok n = sym c.in-Ok.is ∙ parsed n c.as_str.result.now c.parse.result small (same ∙ sym c.as_str.ensures) c.parse.ensures.value.0 in
    let equal : c.in-Ok.number ≡ n = cc in
    let again = c.as_str-2.ensures.value in
    let text = c.as_str-3.ensures in
    let ok = c.in_ok-again.ensures.ok in
    let written = ap decimal equal in
    differ c.as_str-2.result.now c.as_str-3.result.now c.if-eq.ensures (again ∙ (ok ∙ (written ∙ (same ∙ sym text))))
