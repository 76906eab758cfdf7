use Rattle.std.proofs.Common.{rules, ◌≡◌, ℕ, ◌+◌, ◌-◌, ◌<◌, length, take, drop, replicate, ◌++◌, List, [], Bool, true, false, sym, ap, ◌∙◌, arith}
use Rattle.std.proofs.lemmas.List.{get_or_default, take_all, append-nil, drop_all}
use Rattle.deriv_check.specs.Marks.{is_marked}
use Rattle.deriv_check.proofs.UsedLaws.{marked_first, marked_step, marked_skip, marked_from_reached}
use Rattle.deriv_check.proofs.usage.reached.Goals as goal

-- a list that was lent whole
written : (items new : List Bool) (n : ℕ) → length new ≡ length items → n ≡ length items → take n (new ++ drop (length new) items) ≡ new
written items new n same all =
    let none : drop (length new) items ≡ [] = drop_all (length new) items (omega arith) in
    rw (none, append-nil new) (take_all n new (omega arith))

pub loop-i-init : goal.loop-i-init
loop-i-init c =
    let start : c.in_ok-marks.marks.items ≡ replicate (c.args.constraints + length c.args.lines.now + 1) false = search rules in
    rw start (marked_first c.args.constraints c.args.lines.now)

pub loop-i-preserved-then-index : goal.loop-i-preserved-then-index
loop-i-preserved-then-index c =
    let within : c.loop-i.i - 1 < length c.args.lines.now = omega (arith, c.loop-i.auto.i, c.loop-i-test.true) in
    let back : c.loop-i.i - 1 + 1 ≡ c.loop-i.i = omega (arith, c.loop-i-test.true) in
    let room : c.args.constraints + (c.loop-i.i - 1) + 1 < length c.loop-i.marks.items = omega (arith, c.loop-i.invariant.size, within) in
    let marked : is_marked c.loop-i.marks.items (c.args.constraints + (c.loop-i.i - 1) + 1) ≡ true = get_or_default c.loop-i.marks.items (c.args.constraints + (c.loop-i.i - 1) + 1) false c.index.result.now room ∙ (sym c.index.ensures ∙ c.if-index.true) in
    let size : length c.mark.new.marks ≡ length c.loop-i.marks.items = omega (arith, c.mark.auto.marks, ap length c.deref_mut.ensures.value) in
    rw (written c.loop-i.marks.items c.mark.new.marks c.loop-i.marks.len size (omega (arith, c.loop-i.marks.ok.0))) (marked_step c.args.constraints c.args.lines.now (c.loop-i.i - 1) c.index-lines-i.result c.loop-i.marks.items c.mark.new.marks within c.index-lines-i.is marked (rw (← c.index-lines-i.is) at (c.requires.hints (c.loop-i.i - 1) c.index-lines-i.result within)) size (rw (c.deref_mut.ensures.value, c.items.ensures, ← c.index-lines-i.is) at c.mark.ensures) (rw back c.loop-i.invariant))

pub loop-i-preserved : goal.loop-i-preserved
loop-i-preserved c =
    let back : c.loop-i.i - 1 + 1 ≡ c.loop-i.i = omega (arith, c.loop-i-test.true) in
    let room : c.args.constraints + (c.loop-i.i - 1) + 1 < length c.loop-i.marks.items = omega (arith, c.loop-i.invariant.size, c.loop-i.auto.i, c.loop-i-test.true) in
    let unmarked : is_marked c.loop-i.marks.items (c.args.constraints + (c.loop-i.i - 1) + 1) ≡ false = get_or_default c.loop-i.marks.items (c.args.constraints + (c.loop-i.i - 1) + 1) false c.index.result.now room ∙ (sym c.index.ensures ∙ c.if-index.false) in
    marked_skip c.args.constraints c.args.lines.now (c.loop-i.i - 1) c.loop-i.marks.items unmarked (rw back c.loop-i.invariant)

pub returns-clause-exact : goal.returns-clause-exact
returns-clause-exact c =
    let zero_left : c.loop-i.i ≡ 0 = omega (arith, c.loop-i-test.false) in λ n. (c.loop-i.invariant.sound n, marked_from_reached c.args.constraints c.args.lines.now c.loop-i.marks.items (rw zero_left at c.loop-i.invariant) n)
