use Rattle.std.proofs.Common.{◌+◌, arith, subst, sym, List, Option, get_or}
use Rattle.deriv_check.specs.EvidenceForm.{IsLine}
use Rattle.deriv_check.specs.EvidenceText.{derived_line}
use Rattle.deriv_check.specs.declared.derivation.Line.{Line}
use Rattle.deriv_check.specs.Reading.{Reading, seen}
use Rattle.deriv_check.proofs.ReadingLaws.{IsReadUpTo, no_word, read_none, seen_more, seen_stop, seen_end}
use Rattle.deriv_check.proofs.line_reader.front_lines.Goals as goal

pub loop-line-init : goal.loop-line-init
loop-line-init c = subst (λ (f : List (Line)). IsReadUpTo IsLine derived_line (seen c.args.lines.now) 0 f) (sym c.new-found.ensures) (read_none IsLine derived_line (seen c.args.lines.now))

pub returns-in_default : goal.returns-in_default
returns-in_default c =
    seen_stop IsLine derived_line c.args.lines.now c.loop-line.line-index c.loop-line.found c.loop-line-test.true c.loop-line.invariant
    (subst (λ (o : Option (Line)). Reading IsLine derived_line (get_or c.args.lines.now c.loop-line.line-index no_word).now o) c.in_default.is c.in_ok-derived.ensures)

pub loop-line-preserved : goal.loop-line-preserved
loop-line-preserved c =
    subst (λ (f : List (Line)). IsReadUpTo IsLine derived_line (seen c.args.lines.now) (c.loop-line.line-index + 1) f) (sym c.in_ok-push.ensures.ok)
    (seen_more IsLine derived_line c.args.lines.now c.loop-line.line-index c.loop-line.found c.in-Some.derived c.loop-line-test.true c.loop-line.invariant
    (subst (λ (o : Option (Line)). Reading IsLine derived_line (get_or c.args.lines.now c.loop-line.line-index no_word).now o) c.in-Some.is c.in_ok-derived.ensures))

pub returns : goal.returns
returns c = seen_end IsLine derived_line c.args.lines.now c.loop-line.line-index c.loop-line.found c.loop-line-test.false (omega arith) c.loop-line.invariant
