use Rattle.std.proofs.Common.{◌≡◌, length, ap, ◌∙◌, arith}
use Rattle.pb_core.proofs.ValueLaws.{length-set_value}
use Rattle.std.proofs.Common.{None}
use Rattle.deriv_check.proofs.TrailLaws.{Covers-popped, Covers-nothing}
use Rattle.deriv_check.proofs.scratch.Scratch.clear.Goals as goal

pub loop-variable-preserved : goal.loop-variable-preserved
loop-variable-preserved c =
    rw c.set.ensures (
      Covers-popped c.loop-variable.self-inside.values c.pop.new.self.items c.in-Some.variable (rw c.in-Some.ensures.items at c.loop-variable.invariant.0),
      length-set_value c.loop-variable.self-inside.values c.in-Some.variable None ∙ c.loop-variable.invariant.1,
    )

pub returns : goal.returns
returns c =
    let empty : length c.loop-variable.self-inside.trail.items ≡ 0 = omega (arith, c.in_default.ensures.cases.0, c.loop-variable.self-inside.trail.ok.0) in
    let size : length c.loop-variable.self-inside.values ≡ length c.args.self.now = c.loop-variable.invariant.1 ∙ ap length c.self.view_is in
    rw (← size) (Covers-nothing c.loop-variable.self-inside.values c.loop-variable.self-inside.trail.items c.loop-variable.invariant.0 empty)
