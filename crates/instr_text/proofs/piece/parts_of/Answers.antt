use Rattle.std.proofs.Common.{◌≤◌, length, sym, ◌∙◌, arith}
use Rattle.instr_text.specs.Piece.{parts_seen}
use Rattle.instr_text.proofs.PieceLemmas.{part_pushed, part_failed, parts_of-none}
use Rattle.instr_text.proofs.piece.parts_of.Goals as goal

pub returns-in_default : goal.returns-in_default
returns-in_default c =
    part_failed c.args.texts.now c.loop-text.text-index _ _ c.loop-text.parts.items c.loop-text.invariant c.loop-text-test.true c.in_default.ensures

pub loop-text-preserved : goal.loop-text-preserved
loop-text-preserved c =
    part_pushed c.args.texts.now c.loop-text.text-index _ _ c.loop-text.parts.items _ c.in-Some.part c.loop-text.invariant c.loop-text-test.true c.in-Some.ensures c.in_ok-push.ensures.items

pub returns : goal.returns
returns c =
    let past : length c.args.texts.now ≤ c.loop-text.text-index = omega arith in
    sym (parts_of-none (parts_seen c.loop-text.parts.items) c.args.texts.now c.loop-text.text-index past) ∙ c.loop-text.invariant
