use Rattle.std.proofs.Common.{◌≡◌, length, take, fold, cond}
use Rattle.pb_core.specs.AtLeast.{at_least}
use Rattle.pb_core.specs.Values.{make_true}
use Rattle.deriv_check.specs.HintRule.{is_forced}
use Rattle.deriv_check.proofs.hints.take.Given as goal

abbrev pub invariant-loop-term : goal.invariant-loop-term
invariant-loop-term l =
    (l.scratch ≡ fold (λ later t. cond (is_forced l.fn.scratch (at_least l.constraint) t) (make_true later t.lit) later) l.fn.scratch (take l.term-index l.constraint.terms))
    × (length l.scratch ≡ length l.fn.scratch)
