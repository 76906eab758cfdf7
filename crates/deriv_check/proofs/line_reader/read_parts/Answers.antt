use Rattle.std.proofs.Common.{◌≡◌, ◌+◌, subst, sym, ap, ◌∙◌, arith, length, drop, get_or}
use Rattle.std.specs.Fmt.{decimal}
use Rattle.std.proofs.lemmas.List.{take_rest, length-drop}
use Rattle.deriv_check.specs.EvidenceForm.{IsHint}
use Rattle.deriv_check.specs.Reading.{IsFront, seen}
use Rattle.deriv_check.proofs.DerivedLaws.{no_mark, other_mark, no_hints, derived_found}
use Rattle.deriv_check.proofs.ReadingLaws.{no_word, same_bytes, differ}
use Rattle.deriv_check.proofs.line_reader.read_parts.Goals as goal

pub returns-then-at-words : goal.returns-then-at-words
returns-then-at-words c = no_mark c.args.words.now c.in_ok-clause.clause c.in_ok-clause.ensures (omega (arith, c.if-at-words.true, c.len-at.ensures))

pub returns-then-ne : goal.returns-then-ne
returns-then-ne c =
    let at : c.len-at.result ≡ length c.in_ok-clause.clause = c.len-at.ensures in
    other_mark c.args.words.now c.in_ok-clause.clause c.in_ok-clause.ensures (omega (arith, c.if-at-words.false, c.len-at.ensures))
    (λ e. differ (get_or c.args.words.now c.len-at.result no_word).now c.as_slice.result.now (sym c.ne.ensures ∙ c.if-ne.true)
    (ap (λ n. (get_or c.args.words.now n no_word).now) at ∙ e ∙ sym c.as_slice.ensures))

pub returns-then-len-words : goal.returns-then-len-words
returns-then-len-words c =
    let at : c.len-at.result ≡ length c.in_ok-clause.clause = c.len-at.ensures in
    let hints = rw take_rest at c.in_ok-hints.ensures in
    no_hints c.args.words.now c.in_ok-clause.clause c.in_ok-hints.hints c.in_ok-clause.ensures
    (subst (λ n. IsFront IsHint decimal (seen (drop (n + 1) c.args.words.now)) c.in_ok-hints.hints) at hints)
    (omega (arith, c.if-len-words.true, c.len.ensures, at, length-drop (length c.in_ok-clause.clause + 1) c.args.words.now))

pub returns : goal.returns
returns c =
    let at : c.len-at.result ≡ length c.in_ok-clause.clause = c.len-at.ensures in
    let hints = rw take_rest at c.in_ok-hints.ensures in
    derived_found c.args.words.now c.in_ok-clause.clause c.in_ok-hints.hints c.in_ok-clause.ensures (omega (arith, c.if-at-words.false, c.len-at.ensures))
    (ap (λ n. (get_or c.args.words.now n no_word).now) (sym at) ∙ same_bytes (get_or c.args.words.now c.len-at.result no_word).now c.as_slice.result.now (sym c.ne.ensures ∙ c.if-ne.false) ∙ c.as_slice.ensures)
    (subst (λ n. IsFront IsHint decimal (seen (drop (n + 1) c.args.words.now)) c.in_ok-hints.hints) at hints)
    (omega (arith, c.if-len-words.false, c.len.ensures, at, length-drop (length c.in_ok-clause.clause + 1) c.args.words.now))
