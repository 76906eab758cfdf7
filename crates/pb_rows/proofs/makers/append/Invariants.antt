use Rattle.std.proofs.Common.{◌≡◌, ◌++◌, map, take}
use Rattle.pb_rows.specs.Rows.{term}
use Rattle.pb_rows.proofs.makers.append.Given as goal

-- a literal of each variable so far
abbrev pub invariant-loop-variable : goal.invariant-loop-variable
invariant-loop-variable l =
    l.terms.items ≡ l.initial.terms.items ++ map (term 1 l.positive) (take l.variable-index l.variables)
