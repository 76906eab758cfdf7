use Rattle.std.proofs.Common.{◌≡◌, drop}
use Rattle.inf_reader.specs.TableAt.{at}
use Rattle.inf_reader.specs.UnitParts.{traverse}
use Rattle.inf_reader.proofs.Steps.{with_front}
use Rattle.inf_reader.proofs.rows.read_rows.Given as goal

-- the rows so far, and those that are left
abbrev pub invariant-loop-row : goal.invariant-loop-row
invariant-loop-row g l =
    let f = g.R.Row.described (at l.table) l.owner l.unit in
    with_front l.list (traverse f (drop l.row-index l.rows)) ≡ traverse f l.rows
