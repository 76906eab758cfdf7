use Rattle.std.proofs.Common.{refl}
use Rattle.backup_store.proofs.Filings.{set_only}
use Rattle.backup_store.proofs.filing.put.Goals as goal

pub returns-in_err-set-clause-only : goal.returns-in_err-set-clause-only
returns-in_err-set-clause-only g c = set_only c.args.touch.now.path c.args.touch.now.path (g.F.Folder.told c.args.folder.now) (g.F.Folder.told c.set.new.self) refl c.set.ensures.crash c.set.ensures.elsewhere

pub returns-clause-only : goal.returns-clause-only
returns-clause-only g c = set_only c.args.touch.now.path c.args.touch.now.path (g.F.Folder.told c.args.folder.now) (g.F.Folder.told c.set.new.self) refl c.set.ensures.crash c.set.ensures.elsewhere
