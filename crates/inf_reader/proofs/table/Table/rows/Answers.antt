use Rattle.std.proofs.Common.{◌∙◌}
use Rattle.inf_reader.proofs.PlaceLemmas.{first_before, rows_in-between}
use Rattle.inf_reader.proofs.table.Table.rows.Goals as goal

pub rows_between-requires : goal.rows_between-requires
rows_between-requires c = first_before c.args.owner c.args.list

pub returns : goal.returns
returns c = c.in_ok-rows.ensures ∙ rows_in-between c.args.self.now.places.keys c.args.owner c.args.list
