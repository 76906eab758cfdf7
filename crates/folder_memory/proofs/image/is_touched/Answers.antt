use Rattle.std.proofs.lemmas.List.Elements.{contains_decides}
use Rattle.folder_core.specs.Path.{path_eqb}
use Rattle.folder_core.proofs.Maps.{path_eqb-Decides}
use Rattle.folder_memory.proofs.Images.{contains_any, contains_each}
use Rattle.folder_memory.proofs.image.is_touched.Goals as goal

pub returns : goal.returns
returns c =
    let touched = c.args.touched.now in
    let path = c.args.path.now in
    let decides = contains_decides path_eqb path_eqb-Decides touched path c.contains.result c.contains.ensures.cases in
    (λ yes. contains_any touched path (decides.0 yes), λ has. decides.1 (contains_each touched path has))
