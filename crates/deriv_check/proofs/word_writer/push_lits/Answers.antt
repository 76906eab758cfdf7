use Rattle.std.proofs.lemmas.List.Elements.{All-more}
use Rattle.deriv_check.specs.EvidenceForm.{IsLiteral}
use Rattle.deriv_check.specs.EvidenceText.{lit_word}
use Rattle.deriv_check.proofs.WritingLaws.{push_more}
use Rattle.deriv_check.proofs.word_writer.push_lits.Goals as goal

pub loop-lit-preserved : goal.loop-lit-preserved
loop-lit-preserved c = (
  push_more lit_word c.args.line.now.items c.loop-lit.line.items c.push.new.self.items c.push_lit.new.line.items c.args.lits.now c.loop-lit.lit-index _ c.loop-lit-test.true
      c.loop-lit.invariant.0 c.in_ok-push.ensures.items c.in_ok-push_lit.ensures.spelled,
  All-more IsLiteral c.args.lits.now c.loop-lit.lit-index _ c.loop-lit-test.true c.loop-lit.invariant.1 c.in_ok-push_lit.ensures.in_type,
)
