use Rattle.pb_encode.specs.Places.{id_at}
use Rattle.pb_encode.specs.UnitsOf.{units_of}
use Rattle.pb_encode.proofs.IdLaws.{IsFoundUpTo}
use Rattle.pb_encode.proofs.singletons.variables_of_id.Given as goal

-- what was found of the members so far
abbrev pub invariant-loop-place : goal.invariant-loop-place
invariant-loop-place l =
    IsFoundUpTo (units_of l.members) (id_at (units_of l.members) l.from) l.singleton l.from l.place l.found.items
