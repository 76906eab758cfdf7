use Rattle.inf_keys.specs.KeyReading.{key_reading}
use Rattle.inf_keys.proofs.KeyLaws.{means, one_meaning}
use Rattle.inf_reader.proofs.entries.reading_of.Goals as goal

pub returns-clause-value : goal.returns-clause-value
returns-clause-value c = one_meaning c.args.key.now c.read_key.result (key_reading c.args.key.now) c.read_key.ensures (means c.args.key.now)
