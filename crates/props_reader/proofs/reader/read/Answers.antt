use Rattle.props_reader.proofs.PairLemmas.{HasDistinctKeys-merged}
use Rattle.props_reader.proofs.reader.read.Goals as goal

pub as_pairs-requires : goal.as_pairs-requires
as_pairs-requires c = HasDistinctKeys-merged _ _ c.in_ok-found.ensures
