use Rattle.std.proofs.Common.{subst, sym}
use Rattle.inf_keys.specs.Meaning.{Means}
use Rattle.inf_keys.proofs.KeyLaws.{means}
use Rattle.inf_keys.proofs.read.read_key.Goals as goal

pub returns : goal.returns
returns c = subst (Means c.args.text.now) (sym c.key_reading.ensures) (means c.args.text.now)
