use Rattle.std.proofs.Common.{◌≡◌, ◌+◌, ◌<◌, ltb, ◌&&◌, cond, length, get_or, false, ap, ◌∙◌, arith}
use Rattle.std.specs.Int.RustNames.{unsigned_abs}
use Rattle.std.proofs.lemmas.Int.{ints}
use Rattle.std.proofs.lemmas.List.{get_or_default}
use mir.Syntax.{w64}
use mir.Val.{to_z, of_z}
use Rattle.pb_core.specs.AtLeast.{at_least}
use Rattle.pb_core.specs.Slack.{reachable, slack_of}
use Rattle.pb_core.specs.Values.{is_open, make_true}
use Rattle.pb_core.specs.declared.literal.Term.{Term}
use Rattle.deriv_check.proofs.TrailLaws.{force_step}
use Rattle.deriv_check.proofs.hints.take.Goals as goal
use Rattle.deriv_check.proofs.hints.take.Goals.{then-is_forced+in_ok-make_true, else-is_forced}

abbrev none : Term
none = record { coef = 0; lit = record { variable = 0; positive = false } }

pub loop-term-preserved : goal.loop-term-preserved
loop-term-preserved c =
    let within : c.loop-term.term-index < length c.args.constraint.now.terms = omega (arith, ap length c.items-term-items.ensures) in
    let slack : c.slack-slack.result ≡ slack_of c.args.scratch.now (at_least c.args.constraint.now) = rw c.values.ensures at c.slack-slack.ensures in
    let test : c.is_forced.result ≡ (is_open c.loop-term.scratch (get_or c.args.constraint.now.terms c.loop-term.term-index none).lit && ltb (unsigned_abs (to_z w64 (of_z w64 c.slack-slack.result))) (get_or c.args.constraint.now.terms c.loop-term.term-index none).coef) = rw (c.values-in-loop-term.ensures, c.items-term-items.ensures) at c.is_forced.ensures in
    let room : unsigned_abs (to_z w64 (of_z w64 c.slack-slack.result)) + c.args.constraint.now.degree ≡ reachable c.args.scratch.now c.args.constraint.now.terms = omega (arith, ints) in
    let next : c.if-is_forced.scratch ≡ cond c.is_forced.result (make_true c.loop-term.scratch (get_or c.args.constraint.now.terms c.loop-term.term-index none).lit) c.loop-term.scratch = elim c.if-is_forced.branch [ then-is_forced+in_ok-make_true w ↦ rw w.if-is_forced.true (w.scratch-is ∙ (rw c.items-term-items.ensures at w.in_ok-make_true.ensures.ok)) | else-is_forced w ↦ rw w.if-is_forced.false w.scratch-is ] in (
      force_step c.args.scratch.now c.loop-term.scratch c.if-is_forced.scratch (at_least c.args.constraint.now) c.loop-term.term-index _ (get_or c.args.constraint.now.terms c.loop-term.term-index none) c.is_forced.result within (get_or_default c.args.constraint.now.terms c.loop-term.term-index none _ within) c.requires.distinct room c.loop-term.invariant.0 test next,
      elim c.if-is_forced.branch [ then-is_forced+in_ok-make_true w ↦ ap length w.scratch-is ∙ (w.make_true.ensures.size ∙ c.loop-term.invariant.1) | else-is_forced w ↦ ap length w.scratch-is ∙ c.loop-term.invariant.1 ],
    )
