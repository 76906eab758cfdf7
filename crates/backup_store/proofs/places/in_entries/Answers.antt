use Rattle.backup_store.proofs.Names.{journal_name, entries_name}
use Rattle.backup_store.proofs.places.in_entries.Goals as goal

pub below-requires-clause-name : goal.below-requires-clause-name
below-requires-clause-name c = journal_name

pub below-requires-2-clause-name : goal.below-requires-2-clause-name
below-requires-2-clause-name c = entries_name
