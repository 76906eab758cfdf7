use Rattle.std.proofs.Common.{ℕ, ◌≡◌, get_or, subst, sym}
use Rattle.std.specs.Prelude.{Contains}
use Rattle.std.proofs.lemmas.List.Elements.{Contains-get_or}
use Rattle.unit_judge.proofs.Leads.{numbers_more}
use Rattle.unit_judge.proofs.Marking.{marks_then, marks_wider}
use Rattle.unit_judge.proofs.reaching.Reached.reach_all.Goals as goal

pub loop-number-preserved : goal.loop-number-preserved
loop-number-preserved c =
    let numbers = c.args.numbers.now in
    let at = c.loop-number.number-index in
    let Kind : ℕ → Type 0 = Contains numbers in
    let Own : ℕ → Type 0 = λ n. n ≡ get_or numbers at 0 in
    record {
      marks = marks_then Kind _ _ _ c.loop-number.invariant.marks
          (marks_wider Own Kind _ _ (λ n same. subst (Contains numbers) (sym same) (Contains-get_or numbers at 0 c.loop-number-test.true)) c.in_ok-reach.ensures.marks);
      has = numbers_more Own numbers at c.loop-number.self c.reach.new.self c.loop-number-test.true c.in_ok-reach.ensures.marks c.loop-number.invariant.has c.in_ok-reach.ensures.has;
    }
