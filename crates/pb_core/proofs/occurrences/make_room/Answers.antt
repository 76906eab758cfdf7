use Rattle.std.proofs.Common.{false, ◌∙◌, arith}
use Rattle.std.proofs.Math.Seq.{map-set_same}
use Rattle.pb_core.proofs.OccurrenceLaws.{room_step}
use Rattle.pb_core.proofs.occurrences.make_room.Goals as goal

pub returns-in_err-reserve-clause-same : goal.returns-in_err-reserve-clause-same
returns-in_err-reserve-clause-same c =
    map-set_same (λ v. v.items) c.loop-term.lists c.place_of.result c.reserve.new.self c.index-lists-place_of.result c.reserve.ensures.items ∙ c.loop-term.invariant.0

pub loop-term-preserved : goal.loop-term-preserved
loop-term-preserved c = (
  map-set_same (λ v. v.items) c.loop-term.lists c.place_of.result c.reserve.new.self c.index-lists-place_of.result c.reserve.ensures.items ∙ c.loop-term.invariant.0,
  room_step c.loop-term.lists c.args.terms.now c.loop-term.term-index (record { coef = 0; lit = record { variable = 0; positive = false } }) c.place_of.result c.reserve.new.self (omega arith) (omega arith) c.place_of.ensures (omega (arith, c.in_ok-reserve.ensures.ok)) c.loop-term.invariant.1,
)
