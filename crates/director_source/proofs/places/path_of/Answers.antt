use Rattle.director_source.proofs.Paths.{named_at}
use Rattle.director_source.proofs.places.path_of.Goals as goal

pub name_of-requires : goal.name_of-requires
name_of-requires c = named_at c.args.names.now c.loop-name.name-index _ c.requires.names c.loop-name-test.true
