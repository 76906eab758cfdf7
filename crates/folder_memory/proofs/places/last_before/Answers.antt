use Rattle.folder_memory.proofs.Parts.{last_found}
use Rattle.folder_memory.proofs.places.last_before.Goals as goal

pub returns : goal.returns
returns g c = last_found {V = g.row.V.Denot} c.args.places.now c.args.path.now c.range.result (c.range.ensures.in_range tt) c.next_back.result c.next_back.new.self c.next_back.ensures.steps
