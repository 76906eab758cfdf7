use Rattle.std.proofs.Common.{sym}
use Rattle.osgi_version.proofs.VersionOrderLaws.{equal_bound, greater_bound}
use Rattle.osgi_version.proofs.range.Range.begins_below.Goals as goal

pub returns-in-Equal : goal.returns-in-Equal
returns-in-Equal c = equal_bound c.args.self.now.floor c.args.version.now c.args.self.now.floor_included (sym c.in-Equal.ensures)

pub returns-in-Greater : goal.returns-in-Greater
returns-in-Greater c = greater_bound c.args.self.now.floor c.args.version.now c.args.self.now.floor_included (sym c.in-Greater.ensures)
