use Rattle.std.proofs.Common.{◌≡◌, ℕ, arith, Option, subst}
use Rattle.std.specs.Fmt.{decimal}
use Rattle.deriv_check.specs.EvidenceForm.{IsHint}
use Rattle.deriv_check.specs.Colon.{NoColon}
use Rattle.deriv_check.specs.Reading.{Reading}
use Rattle.deriv_check.proofs.ColonLaws.{no_colon_number, colon_uncut, colon_first, colon_second, colon_both}
use Rattle.deriv_check.proofs.colon.read_pair.Goals as goal

abbrev left : ℕ × ℕ → ℕ
left p = p.0

abbrev right : ℕ × ℕ → ℕ
right p = p.1

plain : (n : ℕ) → IsHint n → NoColon (decimal n)
plain n h = no_colon_number n (omega arith)

whole : (p q : ℕ × ℕ) → left q ≡ left p → right q ≡ right p → q ≡ p
whole p q e f = λ i. (e i, f i)

pub returns-in_default : goal.returns-in_default
returns-in_default c = colon_uncut IsHint decimal IsHint decimal left right c.args.word.now c.in_default.ensures

pub returns-in_default-2 : goal.returns-in_default-2
returns-in_default-2 c =
    colon_first IsHint decimal IsHint decimal left right c.args.word.now c.in-Some.before.now c.in-Some.behind.now plain c.in-Some.ensures.0 c.in-Some.ensures.1
    (subst (λ (o : Option ℕ). Reading IsHint decimal c.in-Some.before.now o) c.in_default-2.is c.in_ok-first.ensures)

pub returns-in_default-3 : goal.returns-in_default-3
returns-in_default-3 c =
    colon_second IsHint decimal IsHint decimal left right c.args.word.now c.in-Some.before.now c.in-Some.behind.now plain c.in-Some.ensures.0 c.in-Some.ensures.1
    (subst (λ (o : Option ℕ). Reading IsHint decimal c.in-Some.behind.now o) c.in_default-3.is c.in_ok-second.ensures)

pub returns : goal.returns
returns c =
    colon_both IsHint decimal IsHint decimal left right c.args.word.now c.in-Some.before.now c.in-Some.behind.now plain c.in-Some.ensures.0 c.in-Some.ensures.1
    (c.in-Some-2.first, c.in-Some-3.second) (λ q. whole (c.in-Some-2.first, c.in-Some-3.second) q)
    (subst (λ (o : Option ℕ). Reading IsHint decimal c.in-Some.before.now o) c.in-Some-2.is c.in_ok-first.ensures)
    (subst (λ (o : Option ℕ). Reading IsHint decimal c.in-Some.behind.now o) c.in-Some-3.is c.in_ok-second.ensures)
