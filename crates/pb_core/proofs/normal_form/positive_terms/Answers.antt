use Rattle.std.proofs.Common.{get_or, pos, refl, arith}
use Rattle.std.proofs.lemmas.Int.{ints}
use Rattle.std.proofs.lemmas.List.{get_or_default}
use Rattle.std.proofs.lemmas.List.Sums.{get_or-le-sum_by, sum_by-take-le}
use Rattle.pb_core.specs.Joined.{size}
use Rattle.pb_core.specs.declared.normal_form.Joined.{Joined}
use Rattle.pb_core.proofs.SplitLaws.{put_away, left_out, split_step}
use Rattle.pb_core.proofs.normal_form.positive_terms.Goals as goal
use Rattle.pb_core.proofs.normal_form.positive_terms.Goals.{then-term-gt0+in_ok-push, else-term-gt0}

abbrev none : Joined
none = record { variable = 0; when_true = pos 0; when_false = pos 0 }

pub overflow_sub-left : goal.overflow_sub-left
overflow_sub-left c =
    let here = get_or-le-sum_by size c.args.joined.now c.loop-one.one-index none (omega arith) in
    let part = sum_by-take-le size c.args.joined.now c.loop-one.one-index in
    let high = c.loop-one.invariant.high in
    let low = c.loop-one.invariant.low in
    let common_low = c.split-common.ensures.low in
    let common_high = c.split-common.ensures.high in
    omega (arith, ints)

pub loop-one-preserved : goal.loop-one-preserved
loop-one-preserved c =
    split_step c.args.joined.now c.loop-one.one-index c.loop-one.terms.items c.if-term-gt0.terms.items _ _ _ (get_or c.args.joined.now c.loop-one.one-index none) c.split-common.result.0 c.split-common.result.1 (omega arith) (get_or_default c.args.joined.now c.loop-one.one-index none _ (omega arith)) c.requires.rising c.loop-one.invariant
    (record { variable = c.split-common.ensures.variable; share = c.split-common.ensures.share; low = c.split-common.ensures.low; high = c.split-common.ensures.high; small = c.split-common.ensures.size })
    (elim c.if-term-gt0.branch [ then-term-gt0+in_ok-push w ↦ put_away (rw w.terms-is w.in_ok-push.ensures.items) (omega arith) | else-term-gt0 w ↦ left_out (rw w.terms-is refl) (omega arith) ])
    (let now = c.loop-one.left-is in let high = c.loop-one.invariant.high in let here = get_or-le-sum_by size c.args.joined.now c.loop-one.one-index none (omega arith) in let part = sum_by-take-le size c.args.joined.now c.loop-one.one-index in let low = c.loop-one.invariant.low in let common_low = c.split-common.ensures.low in let common_high = c.split-common.ensures.high in omega (arith, ints))

pub returns-clause-high : goal.returns-clause-high
returns-clause-high c =
    let part = sum_by-take-le size c.args.joined.now c.loop-one.one-index in
    let high = c.loop-one.invariant.high in
    let now = c.loop-one.left-is in
    omega (arith, ints)
