use Rattle.pb_core.proofs.SatisfactionLaws.{Follows-through as law}
use Rattle.pb_core.proofs.laws.follows_through.Goals as goal

pub returns : goal.returns
returns c = law
