use Rattle.std.proofs.Common.{sym, ◌∙◌}
use Rattle.std.proofs.lemmas.Bool.{false≢true}
use Rattle.folder_memory.proofs.Files.{above_tells, nothing_above}
use Rattle.folder_memory.proofs.Found.{below_found, none_found}
use Rattle.folder_memory.proofs.tree.has_file_above.Goals as goal

pub returns-in-Some : goal.returns-in-Some
returns-in-Some c =
    above_tells c.args.files.now c.args.path.now c.requires c.in-Some.place.now c.in-Some.field-0-1.now c.in-Some.ensures c.is_some.result
    (λ some. below_found c.in-Some.place.now c.args.path.now c.name_below.result c.name_below.ensures (sym c.is_some.ensures ∙ some))
    (λ none. none_found c.in-Some.place.now c.args.path.now c.name_below.result c.name_below.ensures (sym c.is_some.ensures ∙ none))

pub returns-in-None : goal.returns-in-None
returns-in-None c = (λ never. absurd (false≢true never), λ has. absurd (nothing_above c.args.files.now c.args.path.now c.requires c.in-None.ensures has))
