use Rattle.std.proofs.Common.{◌≡◌, length, drop}
use Rattle.deriv_check.specs.Database.{database}
use Rattle.deriv_check.specs.HintRule.{conflicts}
use Rattle.deriv_check.specs.LineRule.{hinted}
use Rattle.deriv_check.proofs.lines.conflict.Given as goal

abbrev pub invariant-loop-hint : goal.invariant-loop-hint
invariant-loop-hint l =
    (conflicts l.scratch (hinted (database l.constraints l.lines) (drop l.hint-index l.hints)) ≡ conflicts l.fn.scratch (hinted (database l.constraints l.lines) l.hints))
    × (length l.scratch ≡ length l.fn.scratch)
