use Rattle.std.proofs.Common.{◌≡◌, ◌≢◌, ◌<◌, length, get_or, replicate, false, true, Bool, Option, Some, None, is_none, refl, sym, ap, ◌∙◌, arith}
use Rattle.std.proofs.lemmas.Bool.{false≢true}
use Rattle.std.proofs.lemmas.List.{get_or_default}
use Rattle.std.proofs.lemmas.List.Sums.{fold_more}
use Rattle.pb_core.specs.Literal.{complement}
use Rattle.pb_core.specs.Values.{make_true}
use Rattle.pb_core.specs.declared.literal.Lit.{Lit}
use Rattle.deriv_check.proofs.LineLaws.{deny_step, deny_twice}
use Rattle.deriv_check.proofs.lines.deny.Goals as goal

abbrev none : Lit
none = record { variable = 0; positive = false }

set_from : (o : Option Bool) → is_none o ≡ false → o ≢ None
set_from None e n = false≢true (sym e)
set_from (Some b) e n = cc

open_from : (o : Option Bool) → is_none o ≡ true → o ≡ None
open_from None e = refl
open_from (Some b) e = absurd (false≢true e)

pub returns-then-not-is_open-clause-found : goal.returns-then-not-is_open-clause-found
returns-then-not-is_open-clause-found c =
    let within : c.loop-lit.lit-index < length c.args.lits.now = omega arith in
    let test = rw (c.values-in-loop-lit.ensures, c.loop-lit.invariant.1) at c.is_open.ensures in
    deny_twice (length c.args.scratch.now) c.args.lits.now c.loop-lit.lit-index (get_or c.args.lits.now c.loop-lit.lit-index none) within (get_or_default c.args.lits.now c.loop-lit.lit-index none _ within) (set_from _ (sym test ∙ c.if-not-is_open.true))

pub loop-lit-preserved : goal.loop-lit-preserved
loop-lit-preserved c =
    let within : c.loop-lit.lit-index < length c.args.lits.now = omega arith in
    let test = rw (c.values-in-loop-lit.ensures, c.loop-lit.invariant.1) at c.is_open.ensures in (
      deny_step (length c.args.scratch.now) c.args.lits.now c.loop-lit.lit-index (get_or c.args.lits.now c.loop-lit.lit-index none) within (get_or_default c.args.lits.now c.loop-lit.lit-index none _ within) c.loop-lit.invariant.0 (omega (arith, c.if-lit-eq0.false)) (omega (arith, c.if-lit-len.false, c.len.ensures, ap length c.values.ensures, c.loop-lit.invariant.2)) (open_from _ (sym test ∙ c.if-not-is_open.false)),
      c.in_ok-make_true.ensures.ok ∙ (rw (c.complement.ensures, c.loop-lit.invariant.1) refl ∙ sym (fold_more (λ values (l : Lit). make_true values (complement l)) (replicate (length c.args.scratch.now) None) c.args.lits.now c.loop-lit.lit-index none within)),
      c.make_true.ensures.size ∙ c.loop-lit.invariant.2,
    )
