use Rattle.std.proofs.Common.{ℕ, ◌+◌, arith, subst, sym, List, Option, get_or}
use Rattle.std.specs.Str.{IsUtf8}
use Rattle.deriv_check.specs.EvidenceText.{label_line}
use Rattle.deriv_check.specs.Reading.{Reading, seen}
use Rattle.deriv_check.proofs.ReadingLaws.{IsReadUpTo, no_word, read_none, seen_more, seen_stop, seen_end}
use Rattle.deriv_check.proofs.line_reader.front_labels.Goals as goal

pub loop-line-init : goal.loop-line-init
loop-line-init c = subst (λ (f : List (List ℕ)). IsReadUpTo IsUtf8 label_line (seen c.args.lines.now) 0 f) (sym c.new-found.ensures) (read_none IsUtf8 label_line (seen c.args.lines.now))

pub returns-in_default : goal.returns-in_default
returns-in_default c =
    seen_stop IsUtf8 label_line c.args.lines.now c.loop-line.line-index c.loop-line.found c.loop-line-test.true c.loop-line.invariant
    (subst (λ (o : Option (List ℕ)). Reading IsUtf8 label_line (get_or c.args.lines.now c.loop-line.line-index no_word).now o) c.in_default.is c.in_ok-label.ensures)

pub loop-line-preserved : goal.loop-line-preserved
loop-line-preserved c =
    subst (λ (f : List (List ℕ)). IsReadUpTo IsUtf8 label_line (seen c.args.lines.now) (c.loop-line.line-index + 1) f) (sym c.in_ok-push.ensures.ok)
    (seen_more IsUtf8 label_line c.args.lines.now c.loop-line.line-index c.loop-line.found c.in-Some.label c.loop-line-test.true c.loop-line.invariant
    (subst (λ (o : Option (List ℕ)). Reading IsUtf8 label_line (get_or c.args.lines.now c.loop-line.line-index no_word).now o) c.in-Some.is c.in_ok-label.ensures))

pub returns : goal.returns
returns c = seen_end IsUtf8 label_line c.args.lines.now c.loop-line.line-index c.loop-line.found c.loop-line-test.false (omega arith) c.loop-line.invariant
