use Rattle.std.proofs.Common.{sym, subst}
use Rattle.std.proofs.lemmas.List.{take_all}
use Rattle.std.proofs.lemmas.List.Elements.{All-more, All-same}
use Rattle.deriv_check.specs.EvidenceForm.{IsLine}
use Rattle.deriv_check.specs.EvidenceText.{derived_line}
use Rattle.deriv_check.proofs.WritingLaws.{lines_more}
use Rattle.deriv_check.proofs.evidence_writer.push_lines.Goals as goal

pub loop-line-preserved : goal.loop-line-preserved
loop-line-preserved c =
    let item = c.line-item.result in (
      lines_more derived_line c.args.text.now.items c.loop-line.text.items c.push_line.new.text.items c.args.lines.now c.loop-line.line-index item c.loop-line-test.true c.line-item.is
          c.loop-line.invariant.0 c.in_ok-push_line.ensures.spelled,
      All-more IsLine c.args.lines.now c.loop-line.line-index item c.loop-line-test.true c.loop-line.invariant.1 (subst IsLine c.line-item.is c.in_ok-push_line.ensures.in_type),
    )

pub returns-clause-in_type : goal.returns-clause-in_type
returns-clause-in_type c = All-same IsLine c.args.lines.now _ (sym (take_all c.loop-line.line-index c.args.lines.now c.loop-line-test.false)) c.loop-line.invariant.1
