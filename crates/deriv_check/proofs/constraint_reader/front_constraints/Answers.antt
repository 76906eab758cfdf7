use Rattle.std.proofs.Common.{◌+◌, arith, subst, sym, List, Option, get_or}
use Rattle.deriv_check.specs.EvidenceForm.{IsConstraintOver}
use Rattle.deriv_check.specs.EvidenceText.{constraint_line}
use Rattle.pb_core.specs.declared.constraint.Constraint.{Constraint}
use Rattle.deriv_check.specs.Reading.{Reading, seen}
use Rattle.deriv_check.proofs.ReadingLaws.{IsReadUpTo, no_word, read_none, seen_more, seen_stop, seen_end}
use Rattle.deriv_check.proofs.constraint_reader.front_constraints.Goals as goal

pub loop-line-init : goal.loop-line-init
loop-line-init c = subst (λ (f : List Constraint). IsReadUpTo (IsConstraintOver c.args.labels.now) constraint_line (seen c.args.lines.now) 0 f) (sym c.new-found.ensures) (read_none (IsConstraintOver c.args.labels.now) constraint_line (seen c.args.lines.now))

pub returns-in_default : goal.returns-in_default
returns-in_default c =
    seen_stop (IsConstraintOver c.args.labels.now) constraint_line c.args.lines.now c.loop-line.line-index c.loop-line.found c.loop-line-test.true c.loop-line.invariant
    (subst (λ (o : Option Constraint). Reading (IsConstraintOver c.args.labels.now) constraint_line (get_or c.args.lines.now c.loop-line.line-index no_word).now o) c.in_default.is c.in_ok-constraint.ensures)

pub loop-line-preserved : goal.loop-line-preserved
loop-line-preserved c =
    subst (λ (f : List Constraint). IsReadUpTo (IsConstraintOver c.args.labels.now) constraint_line (seen c.args.lines.now) (c.loop-line.line-index + 1) f) (sym c.in_ok-push.ensures.ok)
    (seen_more (IsConstraintOver c.args.labels.now) constraint_line c.args.lines.now c.loop-line.line-index c.loop-line.found c.in-Some.constraint c.loop-line-test.true c.loop-line.invariant
    (subst (λ (o : Option Constraint). Reading (IsConstraintOver c.args.labels.now) constraint_line (get_or c.args.lines.now c.loop-line.line-index no_word).now o) c.in-Some.is c.in_ok-constraint.ensures))

pub returns : goal.returns
returns c = seen_end (IsConstraintOver c.args.labels.now) constraint_line c.args.lines.now c.loop-line.line-index c.loop-line.found c.loop-line-test.false (omega arith) c.loop-line.invariant
