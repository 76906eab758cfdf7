use Rattle.std.proofs.Common.{sym, ◌∙◌}
use Rattle.install_journal.proofs.ReadingSteps.{unsound_none, unsound_root}
use Rattle.install_journal.proofs.reading.read_sound.Goals as goal
use Rattle.install_journal.proofs.reading.read_sound.Goals.{in_default-via-in-Some+else-not-is_empty, in_default-via-in_default}

pub returns-in_ok-entry_path-in_default-clause-damaged : goal.returns-in_ok-entry_path-in_default-clause-damaged
returns-in_ok-entry_path-in_default-clause-damaged g c =
    let told = g.F.Folder.told c.args.folder.now in
    elim c.in_default.branch [
      | in_default-via-in-Some+else-not-is_empty w ↦
          unsound_root told c.args.number.0 c.in_ok-entry.field-0 w.in-Some.entry w.in-Some.is (sym w.names.ensures.value ∙ w.is_empty.ensures.0 w.if-not-is_empty.false) c.in_ok-entry.ensures.found
      | in_default-via-in_default w ↦ unsound_none told c.args.number.0 c.in_ok-entry.field-0 w.in_default.is c.in_ok-entry.ensures.found
    ]
