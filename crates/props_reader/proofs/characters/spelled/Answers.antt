use Rattle.std.proofs.Common.{◌∙◌, sym, string_bytes}
use Rattle.std.proofs.lemmas.List.{take_rest}
use Rattle.std.proofs.lemmas.Result.{err_from_is_err_and}
use Rattle.props_reader.specs.Characters.{spelled}
use Rattle.props_reader.proofs.CharacterLemmas.{after_text-more, after_text-refused, after_text-none, after_text-start, Refuses-along}
use Rattle.props_reader.proofs.characters.spelled.Goals as goal

pub loop-sign-init : goal.loop-sign-init
loop-sign-init c = rw c.new-text.ensures.bytes (after_text-start c.args.signs.now)

pub returns-in_err-character : goal.returns-in_err-character
returns-in_err-character c =
    let p = err_from_is_err_and c.from_residual.result c.from_residual.ensures.1 in
    let before = rw c.in-Some.ensures.cases.0 at c.loop-sign.invariant in
    rw (p.1, p.2) (Refuses-along c.in_err-character.field-0.0 _ (spelled c.args.signs.now) c.in_err-character.ensures.value
    (λ line h. sym before ∙ after_text-refused (string_bytes c.loop-sign.text) c.in-Some.sign.now c.in-Some.behind.now line h))

pub loop-sign-preserved : goal.loop-sign-preserved
loop-sign-preserved c =
    let before = rw c.in-Some.ensures.cases.0 at c.loop-sign.invariant in
    let more = after_text-more (string_bytes c.loop-sign.text) c.in-Some.sign.now c.in-Some.behind.now c.in_ok-character.character c.in_ok-character.taken c.in_ok-character.ensures.value in
    let all = sym more ∙ before in
    rw c.in_ok-push.ensures.bytes (rw take_rest all)

pub returns : goal.returns
returns c =
    let none = after_text-none (string_bytes c.loop-sign.text) c.loop-sign.rest.now c.in_default.ensures.cases in
    rw (c.in_ok-from_str.ensures, c.as_str.ensures.value) (sym c.loop-sign.invariant ∙ none)
