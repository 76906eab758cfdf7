use Rattle.std.proofs.Common.{◌≡◌, length, string_bytes}
use Rattle.std.specs.Str.{IsUtf8}
use Rattle.instr_text.specs.Expanded.{with_front, expanded}
use Rattle.instr_text.proofs.expanded.expand.Given as goal

-- what is found so far, and what the rest stands for
abbrev pub invariant-loop-before : goal.invariant-loop-before
invariant-loop-before l = (with_front (string_bytes l.found) (expanded l.rest) ≡ expanded l.fn.text) × IsUtf8 l.rest

abbrev pub decreases-loop-before : goal.decreases-loop-before
decreases-loop-before l = length l.rest
