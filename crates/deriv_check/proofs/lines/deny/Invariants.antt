use Rattle.std.proofs.Common.{◌≡◌, length, take}
use Rattle.deriv_check.specs.HintRule.{all_false}
use Rattle.deriv_check.specs.LineRule.{HasLiterals}
use Rattle.deriv_check.proofs.lines.deny.Given as goal

abbrev pub invariant-loop-lit : goal.invariant-loop-lit
invariant-loop-lit l =
    HasLiterals (length l.fn.scratch) (take l.lit-index l.lits) × (l.scratch ≡ all_false (length l.fn.scratch) (take l.lit-index l.lits)) × (length l.scratch ≡ length l.fn.scratch)
