use Rattle.std.proofs.Common.{sym, ◌∙◌}
use Rattle.install_journal.specs.Preparing.{Moves}
use Rattle.install_journal.proofs.Preparings.{both_move, still_prepared, one_closed, closed_then}
use Rattle.install_journal.proofs.Settings.{journal_inside, entries_inside, journal_above, entries_above, flat_then, directory_now, sync_moves, fail_moves, fresh_then}
use Rattle.install_journal.proofs.preparing.set_up.Goals as goal

pub make_directory-requires-clause-inside : goal.make_directory-requires-clause-inside
make_directory-requires-clause-inside g c =
    journal_inside c.args.places.now.journal c.requires.journal

pub make_directory-requires-clause-not_root : goal.make_directory-requires-clause-not_root
make_directory-requires-clause-not_root g c = λ e. let x = sym c.requires.journal ∙ e in let f : ⊥ = cc in f

pub make_directory-requires-clause-above : goal.make_directory-requires-clause-above
make_directory-requires-clause-above g c =
    journal_above g.F.Folder.told g.F.Folder.left_since c.args.folder.now c.args.places.now.journal c.requires.journal (g.met.F.Folder.image_now c.args.folder.now)

pub make_directory-requires-2-clause-inside : goal.make_directory-requires-2-clause-inside
make_directory-requires-2-clause-inside g c =
    entries_inside c.args.places.now.entries c.requires.entries

pub make_directory-requires-2-clause-not_root : goal.make_directory-requires-2-clause-not_root
make_directory-requires-2-clause-not_root g c = λ e. let x = sym c.requires.entries ∙ e in let f : ⊥ = cc in f

pub make_directory-requires-2-clause-above : goal.make_directory-requires-2-clause-above
make_directory-requires-2-clause-above g c =
    entries_above g.F.Folder.told g.F.Folder.left_since c.make_directory.new.folder c.args.places.now.journal c.args.places.now.entries c.requires.journal c.requires.entries c.in_ok-make_directory.ensures.made

pub make_directory-requires-2-clause-prepared : goal.make_directory-requires-2-clause-prepared
make_directory-requires-2-clause-prepared g c =
    still_prepared g.F.Folder.told g.F.Folder.left_since c.args.folder.now c.make_directory.new.folder c.requires.prepared c.make_directory.ensures.moves

pub clear_entries-requires-clause-directory : goal.clear_entries-requires-clause-directory
clear_entries-requires-clause-directory g c =
    directory_now g.F.Folder.told g.F.Folder.left_since c.make_directory-2.new.folder c.args.places.now.entries c.requires.entries c.in_ok-make_directory-2.ensures.made

pub clear_entries-requires-clause-flat : goal.clear_entries-requires-clause-flat
clear_entries-requires-clause-flat g c =
    flat_then g.F.Folder.told g.F.Folder.left_since c.args.folder.now c.make_directory.new.folder c.make_directory-2.new.folder c.args.places.now.journal c.args.places.now.entries c.requires.journal c.requires.entries c.requires.undamaged c.make_directory.ensures.elsewhere c.make_directory-2.ensures.elsewhere

pub clear_entries-requires-clause-prepared : goal.clear_entries-requires-clause-prepared
clear_entries-requires-clause-prepared g c =
    still_prepared g.F.Folder.told g.F.Folder.left_since c.args.folder.now c.make_directory-2.new.folder c.requires.prepared (both_move g.F.Folder.told g.F.Folder.left_since c.args.folder.now c.make_directory.new.folder c.make_directory-2.new.folder c.make_directory.ensures.moves c.make_directory-2.ensures.moves)

pub returns-in_err-make_directory-2-clause-moves : goal.returns-in_err-make_directory-2-clause-moves
returns-in_err-make_directory-2-clause-moves g c =
    both_move g.F.Folder.told g.F.Folder.left_since c.args.folder.now c.make_directory.new.folder c.make_directory-2.new.folder c.make_directory.ensures.moves c.make_directory-2.ensures.moves

pub returns-in_err-make_directory-2-clause-leaves : goal.returns-in_err-make_directory-2-clause-leaves
returns-in_err-make_directory-2-clause-leaves g c =
    closed_then g.F.Folder.told g.F.Folder.left_since c.args.folder.now c.make_directory.new.folder c.make_directory-2.new.folder c.make_directory.ensures.moves c.make_directory.ensures.leaves Moves c.make_directory-2.ensures.moves c.make_directory-2.ensures.leaves

pub returns-in_err-clear_entries-clause-moves : goal.returns-in_err-clear_entries-clause-moves
returns-in_err-clear_entries-clause-moves g c =
    both_move g.F.Folder.told g.F.Folder.left_since c.args.folder.now c.make_directory-2.new.folder c.clear_entries.new.folder (both_move g.F.Folder.told g.F.Folder.left_since c.args.folder.now c.make_directory.new.folder c.make_directory-2.new.folder c.make_directory.ensures.moves c.make_directory-2.ensures.moves) c.clear_entries.ensures.moves

pub returns-in_err-clear_entries-clause-leaves : goal.returns-in_err-clear_entries-clause-leaves
returns-in_err-clear_entries-clause-leaves g c =
    closed_then g.F.Folder.told g.F.Folder.left_since c.args.folder.now c.make_directory-2.new.folder c.clear_entries.new.folder (both_move g.F.Folder.told g.F.Folder.left_since c.args.folder.now c.make_directory.new.folder c.make_directory-2.new.folder c.make_directory.ensures.moves c.make_directory-2.ensures.moves) (closed_then g.F.Folder.told g.F.Folder.left_since c.args.folder.now c.make_directory.new.folder c.make_directory-2.new.folder c.make_directory.ensures.moves c.make_directory.ensures.leaves Moves c.make_directory-2.ensures.moves c.make_directory-2.ensures.leaves) Moves c.clear_entries.ensures.moves c.clear_entries.ensures.leaves

pub returns-in_err-sync-clause-moves : goal.returns-in_err-sync-clause-moves
returns-in_err-sync-clause-moves g c =
    both_move g.F.Folder.told g.F.Folder.left_since c.args.folder.now c.clear_entries.new.folder c.sync.new.self (both_move g.F.Folder.told g.F.Folder.left_since c.args.folder.now c.make_directory-2.new.folder c.clear_entries.new.folder (both_move g.F.Folder.told g.F.Folder.left_since c.args.folder.now c.make_directory.new.folder c.make_directory-2.new.folder c.make_directory.ensures.moves c.make_directory-2.ensures.moves) c.clear_entries.ensures.moves) (fail_moves g.F.Folder.told g.F.Folder.left_since c.clear_entries.new.folder c.sync.new.self c.sync.ensures.stays c.in_err-sync.ensures.failed c.in_err-sync.ensures.untouched)

pub returns-in_err-sync-clause-leaves : goal.returns-in_err-sync-clause-leaves
returns-in_err-sync-clause-leaves g c =
    closed_then g.F.Folder.told g.F.Folder.left_since c.args.folder.now c.clear_entries.new.folder c.sync.new.self (both_move g.F.Folder.told g.F.Folder.left_since c.args.folder.now c.make_directory-2.new.folder c.clear_entries.new.folder (both_move g.F.Folder.told g.F.Folder.left_since c.args.folder.now c.make_directory.new.folder c.make_directory-2.new.folder c.make_directory.ensures.moves c.make_directory-2.ensures.moves) c.clear_entries.ensures.moves) (closed_then g.F.Folder.told g.F.Folder.left_since c.args.folder.now c.make_directory-2.new.folder c.clear_entries.new.folder (both_move g.F.Folder.told g.F.Folder.left_since c.args.folder.now c.make_directory.new.folder c.make_directory-2.new.folder c.make_directory.ensures.moves c.make_directory-2.ensures.moves) (closed_then g.F.Folder.told g.F.Folder.left_since c.args.folder.now c.make_directory.new.folder c.make_directory-2.new.folder c.make_directory.ensures.moves c.make_directory.ensures.leaves Moves c.make_directory-2.ensures.moves c.make_directory-2.ensures.leaves) Moves c.clear_entries.ensures.moves c.clear_entries.ensures.leaves) Moves (fail_moves g.F.Folder.told g.F.Folder.left_since c.clear_entries.new.folder c.sync.new.self c.sync.ensures.stays c.in_err-sync.ensures.failed c.in_err-sync.ensures.untouched)
    (one_closed g.F.Folder.told g.F.Folder.left_since c.clear_entries.new.folder c.sync.new.self (still_prepared g.F.Folder.told g.F.Folder.left_since c.args.folder.now c.clear_entries.new.folder c.requires.prepared (both_move g.F.Folder.told g.F.Folder.left_since c.args.folder.now c.make_directory-2.new.folder c.clear_entries.new.folder (both_move g.F.Folder.told g.F.Folder.left_since c.args.folder.now c.make_directory.new.folder c.make_directory-2.new.folder c.make_directory.ensures.moves c.make_directory-2.ensures.moves) c.clear_entries.ensures.moves)) (g.met.F.Folder.only_now c.clear_entries.new.folder) (fail_moves g.F.Folder.told g.F.Folder.left_since c.clear_entries.new.folder c.sync.new.self c.sync.ensures.stays c.in_err-sync.ensures.failed c.in_err-sync.ensures.untouched) c.sync.ensures.time)

pub returns-clause-moves : goal.returns-clause-moves
returns-clause-moves g c =
    both_move g.F.Folder.told g.F.Folder.left_since c.args.folder.now c.clear_entries.new.folder c.sync.new.self (both_move g.F.Folder.told g.F.Folder.left_since c.args.folder.now c.make_directory-2.new.folder c.clear_entries.new.folder (both_move g.F.Folder.told g.F.Folder.left_since c.args.folder.now c.make_directory.new.folder c.make_directory-2.new.folder c.make_directory.ensures.moves c.make_directory-2.ensures.moves) c.clear_entries.ensures.moves) (sync_moves g.F.Folder.told g.F.Folder.left_since c.clear_entries.new.folder c.sync.new.self (g.met.F.Folder.image_now c.clear_entries.new.folder) c.sync.ensures.stays c.in_ok-sync.ensures.synced c.in_ok-sync.ensures.settled)

pub returns-clause-leaves : goal.returns-clause-leaves
returns-clause-leaves g c =
    closed_then g.F.Folder.told g.F.Folder.left_since c.args.folder.now c.clear_entries.new.folder c.sync.new.self (both_move g.F.Folder.told g.F.Folder.left_since c.args.folder.now c.make_directory-2.new.folder c.clear_entries.new.folder (both_move g.F.Folder.told g.F.Folder.left_since c.args.folder.now c.make_directory.new.folder c.make_directory-2.new.folder c.make_directory.ensures.moves c.make_directory-2.ensures.moves) c.clear_entries.ensures.moves) (closed_then g.F.Folder.told g.F.Folder.left_since c.args.folder.now c.make_directory-2.new.folder c.clear_entries.new.folder (both_move g.F.Folder.told g.F.Folder.left_since c.args.folder.now c.make_directory.new.folder c.make_directory-2.new.folder c.make_directory.ensures.moves c.make_directory-2.ensures.moves) (closed_then g.F.Folder.told g.F.Folder.left_since c.args.folder.now c.make_directory.new.folder c.make_directory-2.new.folder c.make_directory.ensures.moves c.make_directory.ensures.leaves Moves c.make_directory-2.ensures.moves c.make_directory-2.ensures.leaves) Moves c.clear_entries.ensures.moves c.clear_entries.ensures.leaves) Moves (sync_moves g.F.Folder.told g.F.Folder.left_since c.clear_entries.new.folder c.sync.new.self (g.met.F.Folder.image_now c.clear_entries.new.folder) c.sync.ensures.stays c.in_ok-sync.ensures.synced c.in_ok-sync.ensures.settled)
    (one_closed g.F.Folder.told g.F.Folder.left_since c.clear_entries.new.folder c.sync.new.self (still_prepared g.F.Folder.told g.F.Folder.left_since c.args.folder.now c.clear_entries.new.folder c.requires.prepared (both_move g.F.Folder.told g.F.Folder.left_since c.args.folder.now c.make_directory-2.new.folder c.clear_entries.new.folder (both_move g.F.Folder.told g.F.Folder.left_since c.args.folder.now c.make_directory.new.folder c.make_directory-2.new.folder c.make_directory.ensures.moves c.make_directory-2.ensures.moves) c.clear_entries.ensures.moves)) (g.met.F.Folder.only_now c.clear_entries.new.folder) (sync_moves g.F.Folder.told g.F.Folder.left_since c.clear_entries.new.folder c.sync.new.self (g.met.F.Folder.image_now c.clear_entries.new.folder) c.sync.ensures.stays c.in_ok-sync.ensures.synced c.in_ok-sync.ensures.settled) c.sync.ensures.time)

pub returns-clause-fresh : goal.returns-clause-fresh
returns-clause-fresh g c =
    fresh_then g.F.Folder.told g.F.Folder.left_since c.args.folder.now c.make_directory.new.folder c.make_directory-2.new.folder c.clear_entries.new.folder c.sync.new.self c.args.places.now.journal c.args.places.now.entries c.requires.journal c.requires.entries c.requires.undamaged
    c.in_ok-make_directory.ensures.made c.make_directory.ensures.elsewhere c.make_directory-2.ensures.elsewhere c.clear_entries.ensures.spares c.in_ok-clear_entries.ensures.cleared
    (still_prepared g.F.Folder.told g.F.Folder.left_since c.args.folder.now c.clear_entries.new.folder c.requires.prepared (both_move g.F.Folder.told g.F.Folder.left_since c.args.folder.now c.make_directory-2.new.folder c.clear_entries.new.folder (both_move g.F.Folder.told g.F.Folder.left_since c.args.folder.now c.make_directory.new.folder c.make_directory-2.new.folder c.make_directory.ensures.moves c.make_directory-2.ensures.moves) c.clear_entries.ensures.moves))
    (g.met.F.Folder.image_now c.args.folder.now) (both_move g.F.Folder.told g.F.Folder.left_since c.args.folder.now c.make_directory-2.new.folder c.clear_entries.new.folder (both_move g.F.Folder.told g.F.Folder.left_since c.args.folder.now c.make_directory.new.folder c.make_directory-2.new.folder c.make_directory.ensures.moves c.make_directory-2.ensures.moves) c.clear_entries.ensures.moves) c.sync.ensures.stays c.in_ok-sync.ensures.synced c.in_ok-sync.ensures.settled
