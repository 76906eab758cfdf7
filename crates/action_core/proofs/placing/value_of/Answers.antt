use Rattle.std.proofs.Common.{List, Some, sym, ◌∙◌, ap}
use Rattle.std.specs.Prelude.{◌==◌}
use Rattle.std.proofs.lemmas.List.{drop_all}
use Rattle.instr_parser.specs.declared.call.Param.{Param}
use Rattle.action_core.specs.Places.{value_in, value_of}
use Rattle.action_core.proofs.Params.{value_here, value_next, same_code, other_code}
use Rattle.action_core.proofs.placing.value_of.Goals as goal

pub returns-then-param-code : goal.returns-then-param-code
unfolding value_of
returns-then-param-code c =
    let params = c.items-params.result.now in
    let k = c.loop-param.param-index in
    let item = c.param-item.result in
    let code = c.args.code in
    let same = same_code item.code code c.if-param-code.true in
    ap (λ (p : Param). Some p.value) c.param-item.is
    ∙ sym (value_here params k item code c.loop-param-test.true (ap (λ (p : Param). p.code == code) (sym c.param-item.is) ∙ same))
    ∙ c.loop-param.invariant
    ∙ ap (λ (l : List Param). value_in l code) c.items-params.ensures

pub returns : goal.returns
unfolding value_of
returns c =
    let params = c.items-params.result.now in
    let k = c.loop-param.param-index in
    sym (ap (λ (l : List Param). value_in l c.args.code) (drop_all k params c.loop-param-test.false))
    ∙ c.loop-param.invariant
    ∙ ap (λ (l : List Param). value_in l c.args.code) c.items-params.ensures

pub loop-param-preserved : goal.loop-param-preserved
loop-param-preserved c =
    let params = c.items-params.result.now in
    let k = c.loop-param.param-index in
    let item = c.param-item.result in
    let other = other_code item.code c.args.code c.if-param-code.false in
    value_next params k item c.args.code c.loop-param-test.true (ap (λ (p : Param). p.code == c.args.code) (sym c.param-item.is) ∙ other) ∙ c.loop-param.invariant
