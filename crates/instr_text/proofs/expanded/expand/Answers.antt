use Rattle.std.proofs.Common.{[], ◌∷◌, ◌++◌, Some, None, Ok, string_bytes, lit<, sym, ap, ◌∙◌, arith, rules}
use Rattle.std.proofs.lemmas.Result.{err_from_is_err_and}
use Rattle.std.proofs.lemmas.Str.Pattern.{strip_prefix_char}
use Rattle.instr_text.specs.Expanded.{with_front, expanded}
use Rattle.instr_text.proofs.Steps.{Refuses-along}
use Rattle.instr_text.proofs.ExpandedLemmas.{step_cut, step_done, step_dollar, step_variable, step_refused, shorter, shorter_variable}
use Rattle.instr_text.proofs.expanded.expand.Goals as goal

pub returns-in_err-character-in-Some-strip_prefix : goal.returns-in_err-character-in-Some-strip_prefix
returns-in_err-character-in-Some-strip_prefix c =
    let cut = step_cut (string_bytes c.loop-before.found) c.loop-before.rest.now c.in-Some.before.now c.in-Some.behind.now _ c.loop-before.invariant.0 c.in-Some.ensures in
    let opened = strip_prefix_char 123 c.in-Some.behind.now (Some c.in-Some-strip_prefix.name) c.in-Some-strip_prefix.ensures.cases (lit< tt) in
    let residual = c.from_residual-in_err-character-in-Some-strip_prefix in
    let p = err_from_is_err_and residual.result residual.ensures.1 in
    rw (p.1, p.2) (Refuses-along c.in_err-character-in-Some-strip_prefix.field-0.0 _ (expanded c.args.text.now) c.in_err-character-in-Some-strip_prefix.ensures
    (λ r h. step_refused _ c.in-Some.behind.now _ c.in-Some-strip_prefix.name.now r cut opened h))

pub loop-before-smaller-in_ok-push-in-Some-strip_prefix : goal.loop-before-smaller-in_ok-push-in-Some-strip_prefix
loop-before-smaller-in_ok-push-in-Some-strip_prefix c =
    let opened = strip_prefix_char 123 c.in-Some.behind.now (Some c.in-Some-strip_prefix.name) c.in-Some-strip_prefix.ensures.cases (lit< tt) in
    let less = shorter 36 c.loop-before.rest.now c.in-Some.before.now c.in-Some.behind.now c.in-Some.ensures in
    let least = shorter_variable c.in-Some.behind.now c.in-Some-strip_prefix.name.now _ _ opened c.in_ok-character-in-Some-strip_prefix.ensures in
    omega (arith, less, least)

pub loop-before-preserved-in_ok-push-in-Some-strip_prefix : goal.loop-before-preserved-in_ok-push-in-Some-strip_prefix
loop-before-preserved-in_ok-push-in-Some-strip_prefix c =
    let cut = step_cut (string_bytes c.loop-before.found) c.loop-before.rest.now c.in-Some.before.now c.in-Some.behind.now _ c.loop-before.invariant.0 c.in-Some.ensures in
    let opened = strip_prefix_char 123 c.in-Some.behind.now (Some c.in-Some-strip_prefix.name) c.in-Some-strip_prefix.ensures.cases (lit< tt) in
    let step = step_variable _ c.in-Some.behind.now _ c.in-Some-strip_prefix.name.now _ _ cut opened c.in_ok-character-in-Some-strip_prefix.ensures in
    (rw (c.in_ok-push-in-Some-strip_prefix.ensures.bytes, c.in_ok-push_str.ensures.bytes) step, search rules)

pub loop-before-smaller : goal.loop-before-smaller
loop-before-smaller c = shorter 36 c.loop-before.rest.now c.in-Some.before.now c.in-Some.behind.now c.in-Some.ensures

pub loop-before-preserved : goal.loop-before-preserved
loop-before-preserved c =
    let cut = step_cut (string_bytes c.loop-before.found) c.loop-before.rest.now c.in-Some.before.now c.in-Some.behind.now _ c.loop-before.invariant.0 c.in-Some.ensures in
    let none = strip_prefix_char 123 c.in-Some.behind.now None c.in-None.ensures.cases (lit< tt) in
    let step = step_dollar _ c.in-Some.behind.now _ cut none in
    let bytes = c.in_ok-push-in-None.ensures.bytes ∙ (ap (λ x. string_bytes c.push_str.new.self ++ x) (c.in_ok-push-in-None.ensures.ascii (lit< tt)) ∙ ap (λ s. s ++ 36 ∷ []) c.in_ok-push_str.ensures.bytes) in
    (ap (λ s. with_front s (expanded c.in-Some.behind.now)) bytes ∙ step, search rules)

pub returns : goal.returns
returns c =
    let whole = step_done (string_bytes c.loop-before.found) c.loop-before.rest.now [] [] _ c.loop-before.invariant.0 c.in_default.ensures in
    whole ∙ ap Ok (sym c.in_ok-push_str-2.ensures.bytes)
