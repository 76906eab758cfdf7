use Rattle.std.specs.Prelude.{List, ◌++◌, map}
use Rattle.pb_core.specs.AtLeast.{AtLeast, at_least, clause}
use Rattle.pb_core.specs.declared.constraint.Constraint.{Constraint}
use Rattle.deriv_check.specs.declared.derivation.Line.{Line}

-- what a line says
abbrev pub line_seen : Line → AtLeast
line_seen line = clause line.clause

-- the constraints of a problem, and behind them the clauses of lines: what hints number from 1
abbrev pub database : List Constraint → List Line → List AtLeast
database constraints lines = map at_least constraints ++ map line_seen lines
