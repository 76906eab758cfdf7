use Rattle.backup_store.proofs.Fronts.{after_front}
use Rattle.backup_store.proofs.lines.behind.Goals as goal

pub returns : goal.returns
returns c = after_front c.args.bytes.now c.args.front.now c.strip_prefix.result c.strip_prefix.ensures.cases
