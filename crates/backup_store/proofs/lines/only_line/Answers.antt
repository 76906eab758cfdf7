use Rattle.std.proofs.Common.{[], sym, ◌∙◌}
use Rattle.backup_store.proofs.Fronts.{same_lines, some_behind}
use Rattle.backup_store.proofs.lines.only_line.Goals as goal

pub returns-else-is_empty-clause-none : goal.returns-else-is_empty-clause-none
returns-else-is_empty-clause-none c line no_lf is =
    let parts = same_lines c.in_ok-line.line.now line c.in_ok-line.rest.now [] c.in_ok-line.ensures.line no_lf (sym c.in_ok-line.ensures.parts ∙ is) in
    some_behind c.in_ok-line.rest.now c.if-is_empty.ensures parts.1
