use Rattle.std.proofs.Common.{sym}
use Rattle.osgi_version.proofs.VersionOrderLaws.{equal_bound, greater_bound}
use Rattle.osgi_version.proofs.range.Ceiling.is_above.Goals as goal

pub returns-in-Equal : goal.returns-in-Equal
returns-in-Equal c = equal_bound c.args.version.now c.args.self.now.version c.args.self.now.included (sym c.in-Equal.ensures)

pub returns-in-Greater : goal.returns-in-Greater
returns-in-Greater c = greater_bound c.args.version.now c.args.self.now.version c.args.self.now.included (sym c.in-Greater.ensures)
