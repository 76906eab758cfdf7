use Rattle.std.proofs.Common.{◌≡◌, ℕ, ◌<◌, ◌^◌, Option, subst}
use Rattle.std.specs.Fmt.{decimal}
use Rattle.pb_core.specs.declared.literal.Lit.{Lit}
use Rattle.pb_core.specs.declared.literal.Term.{Term}
use Rattle.deriv_check.specs.EvidenceForm.{IsLiteral}
use Rattle.deriv_check.specs.EvidenceText.{lit_word}
use Rattle.deriv_check.specs.Colon.{NoColon}
use Rattle.deriv_check.specs.Reading.{Reading}
use Rattle.deriv_check.proofs.ColonLaws.{no_colon_number, colon_uncut, colon_first, colon_second, colon_both}
use Rattle.deriv_check.proofs.term_reader.read_term.Goals as goal

abbrev IsCoef : ℕ → Type 0
IsCoef n = n < 2 ^ 64

abbrev left : Term → ℕ
left t = t.coef

abbrev right : Term → Lit
right t = t.lit

plain : (n : ℕ) → IsCoef n → NoColon (decimal n)
plain n h = no_colon_number n h

whole : (p q : Term) → left q ≡ left p → right q ≡ right p → q ≡ p
whole p q e f = λ i. record { coef = e i; lit = f i }

pub returns-in_default : goal.returns-in_default
returns-in_default c = colon_uncut IsCoef decimal IsLiteral lit_word left right c.args.word.now c.in_default.ensures

pub returns-in_default-2 : goal.returns-in_default-2
returns-in_default-2 c =
    colon_first IsCoef decimal IsLiteral lit_word left right c.args.word.now c.in-Some.before.now c.in-Some.behind.now plain c.in-Some.ensures.0 c.in-Some.ensures.1
    (subst (λ (o : Option ℕ). Reading IsCoef decimal c.in-Some.before.now o) c.in_default-2.is c.in_ok-coef.ensures)

pub returns-in_default-3 : goal.returns-in_default-3
returns-in_default-3 c =
    colon_second IsCoef decimal IsLiteral lit_word left right c.args.word.now c.in-Some.before.now c.in-Some.behind.now plain c.in-Some.ensures.0 c.in-Some.ensures.1
    (subst (λ (o : Option Lit). Reading IsLiteral lit_word c.in-Some.behind.now o) c.in_default-3.is c.in_ok-lit.ensures)

pub returns : goal.returns
returns c =
    let t : Term = record { coef = c.in-Some-2.coef; lit = c.in-Some-3.lit } in
    colon_both IsCoef decimal IsLiteral lit_word left right c.args.word.now c.in-Some.before.now c.in-Some.behind.now plain c.in-Some.ensures.0 c.in-Some.ensures.1
    t (whole t)
    (subst (λ (o : Option ℕ). Reading IsCoef decimal c.in-Some.before.now o) c.in-Some-2.is c.in_ok-coef.ensures)
    (subst (λ (o : Option Lit). Reading IsLiteral lit_word c.in-Some.behind.now o) c.in-Some-3.is c.in_ok-lit.ensures)
