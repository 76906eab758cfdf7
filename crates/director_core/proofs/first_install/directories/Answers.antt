use Rattle.std.specs.Prelude.{codes}
use Rattle.director_core.proofs.Names.{two_names, profile_is_name, profiles_is_name, installs_is_name}
use Rattle.director_core.proofs.first_install.directories.Goals as goal

pub directory-requires-2-clause-names : goal.directory-requires-2-clause-names
directory-requires-2-clause-names c = two_names (codes "profiles") c.args.profile.now profiles_is_name (profile_is_name c.args.profile.now c.requires)

pub directory-requires-4-clause-names : goal.directory-requires-4-clause-names
directory-requires-4-clause-names c = two_names (codes "installs") c.args.profile.now installs_is_name (profile_is_name c.args.profile.now c.requires)
