use Rattle.std.proofs.Common.{◌≡◌, Some, sym, ◌∙◌}
use Rattle.std.proofs.lemmas.Bool.{false≢true}
use Rattle.folder_core.specs.Folder.{Map}
use Rattle.folder_core.specs.Path.{parent}
use Rattle.folder_core.specs.declared.node.Node.TheVariants.{Dir}
use Rattle.install_journal.specs.Preparing.{Moves}
use Rattle.install_journal.proofs.Opens.{looks_of}
use Rattle.install_journal.proofs.Preparings.{can_make, looked_on, looks_move, set_moves, both_move, still_prepared, one_closed, closed_then, made_by, but_then}
use Rattle.install_journal.proofs.preparing.make_directory.Goals as goal

pub set-requires-clause-place : goal.set-requires-clause-place
set-requires-clause-place g c =
    can_make g.F.Folder.told g.F.Folder.left_since c.look.new.self c.args.path.now c.in_ok-found.found c.requires.not_root (λ dir. false≢true (sym c.if-is_directory.false ∙ c.is_directory.ensures.1 dir))
    (g.met.F.Folder.image_now c.look.new.self)
    (looked_on g.F.Folder.told g.F.Folder.left_since c.args.folder.now c.look.new.self (λ (m : Map). m (parent c.args.path.now) ≡ Some Dir) (looks_of g.F.Folder.told g.F.Folder.left_since c.args.folder.now c.look.new.self c.look.ensures.stays c.look.ensures.unsynced c.look.ensures.untouched c.look.ensures.time) c.requires.above)
    (looked_on g.F.Folder.told g.F.Folder.left_since c.args.folder.now c.look.new.self (λ (m : Map). m c.args.path.now ≡ c.in_ok-found.found) (looks_of g.F.Folder.told g.F.Folder.left_since c.args.folder.now c.look.new.self c.look.ensures.stays c.look.ensures.unsynced c.look.ensures.untouched c.look.ensures.time) c.in_ok-found.ensures.found)

pub returns-in_err-found-clause-moves : goal.returns-in_err-found-clause-moves
returns-in_err-found-clause-moves g c =
    looks_move g.F.Folder.told g.F.Folder.left_since c.args.folder.now c.look.new.self (looks_of g.F.Folder.told g.F.Folder.left_since c.args.folder.now c.look.new.self c.look.ensures.stays c.look.ensures.unsynced c.look.ensures.untouched c.look.ensures.time)

pub returns-in_err-found-clause-leaves : goal.returns-in_err-found-clause-leaves
returns-in_err-found-clause-leaves g c =
    one_closed g.F.Folder.told g.F.Folder.left_since c.args.folder.now c.look.new.self c.requires.prepared (g.met.F.Folder.only_now c.args.folder.now) (looks_move g.F.Folder.told g.F.Folder.left_since c.args.folder.now c.look.new.self (looks_of g.F.Folder.told g.F.Folder.left_since c.args.folder.now c.look.new.self c.look.ensures.stays c.look.ensures.unsynced c.look.ensures.untouched c.look.ensures.time)) c.look.ensures.time

pub returns-then-is_directory-clause-moves : goal.returns-then-is_directory-clause-moves
returns-then-is_directory-clause-moves g c =
    looks_move g.F.Folder.told g.F.Folder.left_since c.args.folder.now c.look.new.self (looks_of g.F.Folder.told g.F.Folder.left_since c.args.folder.now c.look.new.self c.look.ensures.stays c.look.ensures.unsynced c.look.ensures.untouched c.look.ensures.time)

pub returns-then-is_directory-clause-leaves : goal.returns-then-is_directory-clause-leaves
returns-then-is_directory-clause-leaves g c =
    one_closed g.F.Folder.told g.F.Folder.left_since c.args.folder.now c.look.new.self c.requires.prepared (g.met.F.Folder.only_now c.args.folder.now) (looks_move g.F.Folder.told g.F.Folder.left_since c.args.folder.now c.look.new.self (looks_of g.F.Folder.told g.F.Folder.left_since c.args.folder.now c.look.new.self c.look.ensures.stays c.look.ensures.unsynced c.look.ensures.untouched c.look.ensures.time)) c.look.ensures.time

pub returns-clause-made : goal.returns-clause-made
returns-clause-made g c =
    made_by g.F.Folder.told g.F.Folder.left_since c.look.new.self c.set.new.self c.args.path.now c.set.result c.set.ensures.ok

pub returns-clause-elsewhere : goal.returns-clause-elsewhere
returns-clause-elsewhere g c =
    but_then g.F.Folder.told g.F.Folder.left_since c.args.folder.now c.look.new.self c.set.new.self c.args.path.now c.look.ensures.stays c.set.ensures.elsewhere

pub returns-clause-moves : goal.returns-clause-moves
returns-clause-moves g c =
    both_move g.F.Folder.told g.F.Folder.left_since c.args.folder.now c.look.new.self c.set.new.self (looks_move g.F.Folder.told g.F.Folder.left_since c.args.folder.now c.look.new.self (looks_of g.F.Folder.told g.F.Folder.left_since c.args.folder.now c.look.new.self c.look.ensures.stays c.look.ensures.unsynced c.look.ensures.untouched c.look.ensures.time)) (set_moves g.F.Folder.told g.F.Folder.left_since c.look.new.self c.set.new.self c.args.path.now c.requires.inside c.set.ensures.crash c.set.ensures.elsewhere)

pub returns-clause-leaves : goal.returns-clause-leaves
returns-clause-leaves g c =
    closed_then g.F.Folder.told g.F.Folder.left_since c.args.folder.now c.look.new.self c.set.new.self (looks_move g.F.Folder.told g.F.Folder.left_since c.args.folder.now c.look.new.self (looks_of g.F.Folder.told g.F.Folder.left_since c.args.folder.now c.look.new.self c.look.ensures.stays c.look.ensures.unsynced c.look.ensures.untouched c.look.ensures.time)) (one_closed g.F.Folder.told g.F.Folder.left_since c.args.folder.now c.look.new.self c.requires.prepared (g.met.F.Folder.only_now c.args.folder.now) (looks_move g.F.Folder.told g.F.Folder.left_since c.args.folder.now c.look.new.self (looks_of g.F.Folder.told g.F.Folder.left_since c.args.folder.now c.look.new.self c.look.ensures.stays c.look.ensures.unsynced c.look.ensures.untouched c.look.ensures.time)) c.look.ensures.time) Moves (set_moves g.F.Folder.told g.F.Folder.left_since c.look.new.self c.set.new.self c.args.path.now c.requires.inside c.set.ensures.crash c.set.ensures.elsewhere) (one_closed g.F.Folder.told g.F.Folder.left_since c.look.new.self c.set.new.self (still_prepared g.F.Folder.told g.F.Folder.left_since c.args.folder.now c.look.new.self c.requires.prepared (looks_move g.F.Folder.told g.F.Folder.left_since c.args.folder.now c.look.new.self (looks_of g.F.Folder.told g.F.Folder.left_since c.args.folder.now c.look.new.self c.look.ensures.stays c.look.ensures.unsynced c.look.ensures.untouched c.look.ensures.time))) (g.met.F.Folder.only_now c.look.new.self) (set_moves g.F.Folder.told g.F.Folder.left_since c.look.new.self c.set.new.self c.args.path.now c.requires.inside c.set.ensures.crash c.set.ensures.elsewhere) c.set.ensures.time)
