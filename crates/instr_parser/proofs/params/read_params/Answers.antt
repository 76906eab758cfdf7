use Rattle.std.proofs.Common.{◌≤◌, length, sym, ◌∙◌, arith}
use Rattle.std.proofs.lemmas.Result.{err_from_is_err_and}
use Rattle.instr_text.specs.Piece.{parts_seen}
use Rattle.instr_text.proofs.Steps.{Refuses-along}
use Rattle.instr_parser.specs.Params.{params_of}
use Rattle.instr_parser.proofs.ParamSteps.{param_read, param_refused, params_from-none}
use Rattle.instr_parser.proofs.params.read_params.Goals as goal

pub returns-in_err-param : goal.returns-in_err-param
returns-in_err-param c =
    let parts = c.args.parts.now in
    let p = err_from_is_err_and c.from_residual.result c.from_residual.ensures.1 in
    rw (p.1, p.2) (Refuses-along c.in_err-param.field-0.0 _ (params_of c.args.kind (parts_seen parts)) c.in_err-param.ensures
    (λ r h. sym c.loop-part.invariant ∙ param_refused c.args.kind c.loop-part.given.items parts c.loop-part.part-index _ _ r c.loop-part-test.true c.deref.ensures.value h))

pub loop-part-preserved : goal.loop-part-preserved
loop-part-preserved c =
    param_read c.args.kind c.loop-part.given.items c.args.parts.now c.loop-part.part-index _ _ c.in_ok-param.param _ c.loop-part-test.true
    c.deref.ensures.value c.in_ok-param.ensures c.in_ok-insert.ensures
    ∙ c.loop-part.invariant

pub returns : goal.returns
returns c =
    let past : length c.args.parts.now ≤ c.loop-part.part-index = omega arith in
    sym c.loop-part.invariant ∙ params_from-none c.args.kind c.loop-part.given.items c.args.parts.now c.loop-part.part-index past
