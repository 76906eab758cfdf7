use Rattle.std.proofs.Common.{◌≡◌, ℕ, ◌+◌, false, length, get_or, take}
use Rattle.pb_solver.specs.Wanted.{is_wanted}
use Rattle.pb_solver.proofs.agenda.marks.Given as goal

abbrev pub invariant-loop-variable : goal.invariant-loop-variable
invariant-loop-variable l = record {
  size : length l.marks.items ≡ l.variables + 1;
  marks : (v : ℕ) → get_or l.marks.items v false ≡ is_wanted (take l.variable-index l.order) v;
}
