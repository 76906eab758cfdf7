use Rattle.std.proofs.Common.{◌+◌, arith, subst, sym, List, Option, get_or}
use Rattle.deriv_check.specs.Terms.{IsTerm}
use Rattle.deriv_check.specs.EvidenceText.{term_word}
use Rattle.pb_core.specs.declared.literal.Term.{Term}
use Rattle.deriv_check.specs.Reading.{Reading, seen}
use Rattle.deriv_check.proofs.ReadingLaws.{IsReadUpTo, no_word, read_none, seen_more, seen_stop, seen_end}
use Rattle.deriv_check.proofs.term_reader.front_terms.Goals as goal

pub loop-word-init : goal.loop-word-init
loop-word-init c = subst (λ (f : List Term). IsReadUpTo IsTerm term_word (seen c.args.words.now) 0 f) (sym c.new-found.ensures) (read_none IsTerm term_word (seen c.args.words.now))

pub returns-in_default : goal.returns-in_default
returns-in_default c =
    seen_stop IsTerm term_word c.args.words.now c.loop-word.word-index c.loop-word.found c.loop-word-test.true c.loop-word.invariant
    (subst (λ (o : Option Term). Reading IsTerm term_word (get_or c.args.words.now c.loop-word.word-index no_word).now o) c.in_default.is c.in_ok-term.ensures)

pub loop-word-preserved : goal.loop-word-preserved
loop-word-preserved c =
    subst (λ (f : List Term). IsReadUpTo IsTerm term_word (seen c.args.words.now) (c.loop-word.word-index + 1) f) (sym c.in_ok-push.ensures.ok)
    (seen_more IsTerm term_word c.args.words.now c.loop-word.word-index c.loop-word.found c.in-Some.term c.loop-word-test.true c.loop-word.invariant
    (subst (λ (o : Option Term). Reading IsTerm term_word (get_or c.args.words.now c.loop-word.word-index no_word).now o) c.in-Some.is c.in_ok-term.ensures))

pub returns : goal.returns
returns c = seen_end IsTerm term_word c.args.words.now c.loop-word.word-index c.loop-word.found c.loop-word-test.false (omega arith) c.loop-word.invariant
