use Rattle.std.proofs.Common.{◌≡◌, ◌≤◌, [], ◌++◌, length, option_to_list, sym, ap, ◌∙◌, append-nil, arith}
use Rattle.std.proofs.lemmas.Result.{err_from_is_err_and}
use Rattle.instr_text.specs.Cut.{seen}
use Rattle.instr_text.proofs.Steps.{Refuses-along}
use Rattle.instr_parser.specs.Calls.{calls_from}
use Rattle.instr_parser.proofs.PieceSteps.{call_put, call_refused, sizes-more, calls_from-none}
use Rattle.instr_parser.proofs.pieces.read_pieces.Goals as goal
use Rattle.instr_parser.proofs.pieces.read_pieces.Goals.{in-Some+in_ok-push, in_default}

pub returns-in_err-call : goal.returns-in_err-call
returns-in_err-call c =
    let pieces = c.args.pieces.now in
    let p = err_from_is_err_and c.from_residual.result c.from_residual.ensures.1 in
    rw (p.1, p.2) (Refuses-along c.in_err-call.field-0.0 _ (calls_from c.args.plain.now 0 (seen pieces)) c.in_err-call.ensures
    (λ r h. sym c.loop-piece.invariant.0 ∙ call_refused c.args.plain.now c.loop-piece.at c.loop-piece.calls pieces c.loop-piece.piece-index _ r c.loop-piece-test.true h))

pub loop-piece-preserved : goal.loop-piece-preserved
loop-piece-preserved c =
    let found = c.loop-piece.calls in
    let put : c.match-branch-2.calls ≡ found ++ option_to_list c.in_ok-call.field-0 =
    elim c.match-branch-2.branch [
      | in-Some+in_ok-push w ↦ w.calls-is ∙ (w.in_ok-push.ensures.ok ∙ ap (λ o. found ++ option_to_list o) (sym w.in-Some.is))
      | in_default w ↦ w.calls-is ∙ (sym (append-nil found) ∙ ap (λ o. found ++ option_to_list o) (sym w.in_default.is))
    ] in
    let more = sizes-more c.args.plain.now c.loop-piece.at found c.args.pieces.now c.loop-piece.piece-index (record { ref_ptr = (0, 0); now = [] }) c.loop-piece-test.true in
    let whole = c.loop-piece.invariant.1 in (
      call_put c.args.plain.now c.loop-piece.at found c.args.pieces.now c.loop-piece.piece-index _ c.in_ok-call.field-0 c.match-branch-2.calls c.loop-piece-test.true c.in_ok-call.ensures put
          ∙ c.loop-piece.invariant.0,
      omega (arith, more, whole),
    )

pub returns : goal.returns
returns c =
    let past : length c.args.pieces.now ≤ c.loop-piece.piece-index = omega arith in
    sym c.loop-piece.invariant.0 ∙ calls_from-none c.args.plain.now c.loop-piece.at c.loop-piece.calls c.args.pieces.now c.loop-piece.piece-index past
