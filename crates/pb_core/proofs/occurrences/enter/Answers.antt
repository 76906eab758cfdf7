use Rattle.std.proofs.Common.{◌<◌, false, length, get_or, arith}
use Rattle.std.proofs.lemmas.List.{get_or_default}
use Rattle.pb_core.specs.declared.literal.Term.{Term}
use Rattle.pb_core.proofs.OccurrenceLaws.{enter_step, enter_room}
use Rattle.pb_core.proofs.occurrences.enter.Goals as goal

abbrev none : Term
none = record { coef = 0; lit = record { variable = 0; positive = false } }

pub loop-term-preserved : goal.loop-term-preserved
loop-term-preserved c =
    let terms = c.args.terms.now in
    let i = c.loop-term.term-index in
    let within : i < length terms = omega arith in (
      λ lit some inside. rw c.place_of.ensures (enter_step c.loop-term.lists c.args.lists.now terms i c.args.number (get_or terms i none) c.push_reserved.new.self lit within (get_or_default terms i none _ within) c.loop-term.auto.lists c.requires.distinct (c.requires.coefs i none within) (c.requires.places i none within).0 (omega (arith, (c.requires.places i none within).1)) (λ d. rw (← c.place_of.ensures, get_or_default c.loop-term.lists c.place_of.result d c.index-lists-place_of.result (omega arith)) c.push_reserved.ensures.items) some inside (c.loop-term.invariant.0 lit some inside)),
      enter_room c.loop-term.lists terms i none c.place_of.result c.push_reserved.new.self within c.place_of.ensures c.requires.distinct (λ k d h. (c.requires.places k d h).0) c.loop-term.invariant.1,
    )
