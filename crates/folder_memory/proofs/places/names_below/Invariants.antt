use Rattle.std.specs.BTreeSet.{contains}
use Rattle.std.specs.Ordering.{nat_cmp}
use Rattle.std.specs.Cmp.Lexicographic.{slice_cmp}
use Rattle.folder_memory.specs.Below.{IsFirstBelow}
use Rattle.folder_memory.proofs.Kids.{Gathers}
use Rattle.folder_memory.proofs.places.names_below.Given as goal

-- the names that the places so far give
abbrev pub invariant-loop-place : goal.invariant-loop-place
invariant-loop-place g l = Gathers (λ pair name. IsFirstBelow l.path name pair.0.now) (λ name. contains (slice_cmp nat_cmp) l.names name) l.yielded
