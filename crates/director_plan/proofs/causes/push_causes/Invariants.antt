use Rattle.std.proofs.Common.{◌≡◌, ◌++◌, take}
use Rattle.director_plan.specs.EvidenceLines.{because_lines}
use Rattle.director_plan.proofs.causes.push_causes.Given as goal

-- the lines so far
abbrev pub invariant-loop-number : goal.invariant-loop-number
invariant-loop-number l = l.lines.items ≡ l.fn.lines.items ++ because_lines l.problem (take l.number-index l.numbers)
