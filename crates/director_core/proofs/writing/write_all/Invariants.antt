use Rattle.std.proofs.Common.{◌≡◌, ◌≤◌, ◌++◌, ℕ, List, length}
use Rattle.folder_core.specs.Step.{Step}
use Rattle.director_core.proofs.writing.write_all.Given as goal

-- what was written and what is left are the bytes
abbrev pub invariant-loop-rest : goal.invariant-loop-rest
invariant-loop-rest g l = record {
  written : Step (g.K.Sink.told l.fn.out) (g.K.Sink.told l.out) (λ s t. (front : List ℕ) × (front ++ l.rest ≡ l.bytes) × (t ≡ s ++ front));
  later : g.K.Sink.faults l.fn.out ≤ g.K.Sink.faults l.out;
}

abbrev pub decreases-loop-rest : goal.decreases-loop-rest
decreases-loop-rest g l = length l.rest
