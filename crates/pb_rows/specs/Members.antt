-- Members and their variables: the n-th member has the variable n.
use Rattle.std.specs.Prelude.{ℕ, Bool, List, map}
use Rattle.std.specs.List.{enumerate_from, filter}
use Rattle.unit_model.specs.declared.unit.Unit.{Unit as Package}

-- each member behind its variable
abbrev pub numbered : List Package → List (ℕ × Package)
numbered members = enumerate_from 1 members

-- the variables of the members that pass the test, rising
abbrev pub variables : (Package → Bool) → List Package → List ℕ
variables test members = map (λ m. m.0) (filter (λ m. test m.1) (numbered members))

-- the members whose variables are true
abbrev pub selected : (ℕ → Bool) → List Package → List Package
selected full members = map (λ m. m.1) (filter (λ m. full m.0) (numbered members))
