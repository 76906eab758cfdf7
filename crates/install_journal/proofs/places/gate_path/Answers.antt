use Rattle.install_journal.proofs.Names.{journal_is_name, undo_is_name}
use Rattle.install_journal.proofs.places.gate_path.Goals as goal

pub below-requires-clause-name : goal.below-requires-clause-name
below-requires-clause-name c = journal_is_name

pub below-requires-2-clause-name : goal.below-requires-2-clause-name
below-requires-2-clause-name c = undo_is_name
