use Rattle.std.proofs.Common.{◌≡◌, map}
use Rattle.folder_core.specs.Path.{IsPath}
use Rattle.folder_core.proofs.path.Path.read.Given as goal

-- the path has the names of the pieces so far
abbrev pub invariant-loop-piece : goal.invariant-loop-piece
invariant-loop-piece l =
    (goal.iterator-loop-piece).can_next l.piece-iterator ×
    (goal.iterator-loop-piece).is_finite l.piece-iterator ×
    IsPath l.path × (l.path ≡ map (λ x. x.now) l.yielded)
