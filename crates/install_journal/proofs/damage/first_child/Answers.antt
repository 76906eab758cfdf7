use Rattle.std.proofs.Common.{sym, ◌∙◌, ap}
use Rattle.std.specs.Option.{option_copied}
use Rattle.install_journal.proofs.Firsts.{found_none, found_some}
use Rattle.install_journal.proofs.damage.first_child.Goals as goal

pub returns-clause-found : goal.returns-clause-found
returns-clause-found g c =
    found_none (g.F.Folder.told c.args.folder.now) c.args.path.now c.in_ok-names.names (g.met.F.Folder.image_now c.args.folder.now) c.in_ok-names.ensures.kids
    (sym c.get.ensures ∙ ap option_copied c.in-None.is)

pub returns-in-Some-clause-found : goal.returns-in-Some-clause-found
returns-in-Some-clause-found g c =
    found_some (g.F.Folder.told c.args.folder.now) c.args.path.now c.in_ok-child-in-Some.field-0 c.in-Some.name.now c.in_ok-names.names (g.met.F.Folder.image_now c.args.folder.now) c.in_ok-names.ensures.rising c.in_ok-names.ensures.kids
    (sym c.get.ensures ∙ ap option_copied c.in-Some.is) c.in_ok-child-in-Some.ensures
