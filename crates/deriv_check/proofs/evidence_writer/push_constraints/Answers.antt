use Rattle.std.proofs.Common.{sym, subst}
use Rattle.std.proofs.lemmas.List.{take_all}
use Rattle.std.proofs.lemmas.List.Elements.{All-more, All-same}
use Rattle.deriv_check.specs.EvidenceForm.{IsOrigin}
use Rattle.pb_core.specs.declared.constraint.Constraint.{Constraint}
use Rattle.deriv_check.specs.EvidenceText.{constraint_line}
use Rattle.deriv_check.proofs.WritingLaws.{lines_more}
use Rattle.deriv_check.proofs.evidence_writer.push_constraints.Goals as goal

pub loop-constraint-preserved : goal.loop-constraint-preserved
loop-constraint-preserved c =
    let item = c.constraint-item.result in (
      lines_more constraint_line c.args.text.now.items c.loop-constraint.text.items c.push_constraint.new.text.items c.args.constraints.now c.loop-constraint.constraint-index item c.loop-constraint-test.true c.constraint-item.is
          c.loop-constraint.invariant.0 c.in_ok-push_constraint.ensures.spelled,
      All-more (λ (x : Constraint). IsOrigin x.origin) c.args.constraints.now c.loop-constraint.constraint-index item c.loop-constraint-test.true c.loop-constraint.invariant.1 (subst (λ (x : Constraint). IsOrigin x.origin) c.constraint-item.is c.in_ok-push_constraint.ensures.in_type),
    )

pub returns-clause-in_type : goal.returns-clause-in_type
returns-clause-in_type c = All-same (λ (x : Constraint). IsOrigin x.origin) c.args.constraints.now _ (sym (take_all c.loop-constraint.constraint-index c.args.constraints.now c.loop-constraint-test.false)) c.loop-constraint.invariant.1
