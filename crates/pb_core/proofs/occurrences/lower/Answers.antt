use Rattle.std.proofs.Common.{◌≡◌, ◌+◌, ◌-◌, ◌<◌, length, get_or, arith}
use Rattle.std.proofs.lemmas.Int.{ints}
use Rattle.std.proofs.lemmas.List.{get_or_default}
use Rattle.pb_core.specs.declared.occurrences.Occurrence.{Occurrence}
use Rattle.pb_core.proofs.OccurrenceLaws.{lower_step, share_has, share_next}
use Rattle.pb_core.proofs.occurrences.lower.Goals as goal

abbrev none : Occurrence
none = record { number = 0; coef = 0 }

pub overflow_cast-slacks : goal.overflow_cast-slacks
overflow_cast-slacks g c =
    let within : c.loop-occurrence.occurrence-index < length c.args.occurrences.now = omega arith in
    let numbered = c.requires.numbered c.loop-occurrence.occurrence-index none within in
    let o = get_or c.args.occurrences.now c.loop-occurrence.occurrence-index none in
    let fit = c.requires.fit (o.number - 1) (omega (arith, numbered.0, numbered.1)) in
    let one : o.number - 1 + 1 ≡ o.number = omega (arith, numbered.0) in
    let share = rw one at fit.2 in
    let has = share_has c.args.occurrences.now c.loop-occurrence.occurrence-index none within in
    omega (arith, ints)

pub overflow_sub-slacks : goal.overflow_sub-slacks
overflow_sub-slacks g c =
    let within : c.loop-occurrence.occurrence-index < length c.args.occurrences.now = omega arith in
    let numbered = c.requires.numbered c.loop-occurrence.occurrence-index none within in
    let o = get_or c.args.occurrences.now c.loop-occurrence.occurrence-index none in
    let inside : o.number - 1 < length c.args.slacks.now = omega (arith, numbered.0, numbered.1) in
    let fit = c.requires.fit (o.number - 1) inside in
    let one : o.number - 1 + 1 ≡ o.number = omega (arith, numbered.0) in
    let share = rw one at fit.2 in
    let next = share_next c.args.occurrences.now c.loop-occurrence.occurrence-index none within in
    let old = rw one at (c.loop-occurrence.invariant.0 (o.number - 1) inside) in
    let low = fit.0 in
    let high = fit.1 in
    omega (arith, ints)

pub loop-occurrence-preserved : goal.loop-occurrence-preserved
loop-occurrence-preserved g c =
    let within : c.loop-occurrence.occurrence-index < length c.args.occurrences.now = omega arith in
    let numbered = c.requires.numbered c.loop-occurrence.occurrence-index none within in
    let o = get_or c.args.occurrences.now c.loop-occurrence.occurrence-index none in
    let inside : o.number - 1 < length c.args.slacks.now = omega (arith, numbered.0, numbered.1) in
    let fit = c.requires.fit (o.number - 1) inside in
    let one : o.number - 1 + 1 ≡ o.number = omega (arith, numbered.0) in
    let share = rw one at fit.2 in
    let next = share_next c.args.occurrences.now c.loop-occurrence.occurrence-index none within in
    let old = rw one at (c.loop-occurrence.invariant.0 (o.number - 1) inside) in
    let low = fit.0 in
    let high = fit.1 in (
      lower_step c.loop-occurrence.slacks c.args.slacks.now c.args.occurrences.now c.loop-occurrence.occurrence-index o _ within (get_or_default c.args.occurrences.now c.loop-occurrence.occurrence-index none o within) c.loop-occurrence.auto.slacks numbered.0 numbered.1 c.loop-occurrence.invariant.0 (omega (arith, ints)),
      omega (arith, c.tick.ensures, c.loop-occurrence.invariant.1),
    )
