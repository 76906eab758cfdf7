use Rattle.std.proofs.Common.{◌++◌, ◌∷◌, [], Option, Some, option_map, string_bytes, lit<, ap, ◌∙◌, rules}
use Rattle.unit_model.specs.declared.name.UnitName.{UnitName}
use Rattle.inf_values.specs.Replaced.{with_front, replaced}
use Rattle.inf_values.proofs.ReplacedLemmas.{cut_at, none_at, variable_at, dollar_at_front, done}
use Rattle.inf_values.proofs.variables.replaced.Goals as goal

pub returns-in_default-host : goal.returns-in_default-host
returns-in_default-host c =
    let host : Option UnitName = option_map (λ h. h.now) c.args.host in
    let parts = c.in-Some.ensures.byte (lit< tt) (λ w o f. f) in
    let cut = cut_at host (string_bytes c.loop-before.found) c.loop-before.rest.now c.in-Some.before.now c.in-Some.behind.now _ c.loop-before.invariant.0 parts.0 parts.1 parts.2 in
    none_at host _ c.in-Some.behind.now _ c.in-Some-read_variable.variable c.in-Some-read_variable.behind.now cut c.in-Some-read_variable.ensures (ap (option_map (λ h. h.now)) c.in_default-host.is)

pub loop-before-preserved-in_ok-push_str-in-Some-read_variable : goal.loop-before-preserved-in_ok-push_str-in-Some-read_variable
loop-before-preserved-in_ok-push_str-in-Some-read_variable c =
    let host : Option UnitName = option_map (λ h. h.now) c.args.host in
    let parts = c.in-Some.ensures.byte (lit< tt) (λ w o f. f) in
    let cut = cut_at host (string_bytes c.loop-before.found) c.loop-before.rest.now c.in-Some.before.now c.in-Some.behind.now _ c.loop-before.invariant.0 parts.0 parts.1 parts.2 in
    let step = variable_at host _ c.in-Some.behind.now _ c.in-Some-read_variable.variable c.in-Some-read_variable.behind.now c.in-Some-host.host.now cut c.in-Some-read_variable.ensures (ap (option_map (λ h. h.now)) c.in-Some-host.is) in
    let text = c.as_str-in-Some-read_variable.ensures ∙ c.in_ok-value-in-Some-read_variable.ensures in
    (rw (c.in_ok-push_str-in-Some-read_variable.ensures.bytes, c.in_ok-push_str.ensures.bytes, text) step, search rules)

pub loop-before-preserved : goal.loop-before-preserved
loop-before-preserved c =
    let host : Option UnitName = option_map (λ h. h.now) c.args.host in
    let parts = c.in-Some.ensures.byte (lit< tt) (λ w o f. f) in
    let cut = cut_at host (string_bytes c.loop-before.found) c.loop-before.rest.now c.in-Some.before.now c.in-Some.behind.now _ c.loop-before.invariant.0 parts.0 parts.1 parts.2 in
    let step = dollar_at_front host _ c.in-Some.behind.now _ cut c.in-None.ensures in
    let bytes = c.in_ok-push-in-None.ensures.bytes ∙ (ap (λ x. string_bytes c.push_str.new.self ++ x) (c.in_ok-push-in-None.ensures.ascii (lit< tt)) ∙ ap (λ s. s ++ 36 ∷ []) c.in_ok-push_str.ensures.bytes) in
    (ap (λ s. with_front s (replaced host c.in-Some.behind.now)) bytes ∙ step, search rules)

pub returns : goal.returns
returns c =
    let host : Option UnitName = option_map (λ h. h.now) c.args.host in
    let none = c.in_default.ensures.byte (lit< tt) (λ w o f. f) in
    let whole = done host (string_bytes c.loop-before.found) [] _ c.loop-before.rest.now c.loop-before.invariant.0 none in
    ap Some (c.in_ok-from_str.ensures ∙ (c.as_str-2.ensures.value ∙ c.in_ok-push_str-2.ensures.bytes)) ∙ whole
