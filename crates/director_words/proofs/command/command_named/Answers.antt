use Rattle.director_words.specs.Command.{commands}
use Rattle.director_words.proofs.command.command_named.Goals as goal

pub returns : goal.returns
unfolding commands
returns c = c.named_in.ensures
