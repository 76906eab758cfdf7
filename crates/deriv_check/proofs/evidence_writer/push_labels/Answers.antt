use Rattle.std.proofs.Common.{sym, subst}
use Rattle.std.proofs.lemmas.List.{take_all}
use Rattle.std.proofs.lemmas.List.Elements.{All-more, All-same}
use Rattle.std.specs.Str.{IsUtf8}
use Rattle.deriv_check.specs.EvidenceText.{label_line}
use Rattle.deriv_check.proofs.WritingLaws.{lines_more}
use Rattle.deriv_check.proofs.evidence_writer.push_labels.Goals as goal

pub loop-label-preserved : goal.loop-label-preserved
loop-label-preserved c =
    let item = c.label-item.result in (
      lines_more label_line c.args.text.now.items c.loop-label.text.items c.push_label.new.text.items c.args.labels.now c.loop-label.label-index item c.loop-label-test.true c.label-item.is
          c.loop-label.invariant.0 c.in_ok-push_label.ensures.spelled,
      All-more IsUtf8 c.args.labels.now c.loop-label.label-index item c.loop-label-test.true c.loop-label.invariant.1 (subst IsUtf8 c.label-item.is c.in_ok-push_label.ensures.utf8),
    )

pub returns-clause-utf8 : goal.returns-clause-utf8
returns-clause-utf8 c = All-same IsUtf8 c.args.labels.now _ (sym (take_all c.loop-label.label-index c.args.labels.now c.loop-label-test.false)) c.loop-label.invariant.1
