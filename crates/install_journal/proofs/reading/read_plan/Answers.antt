use Rattle.install_journal.proofs.ReadingLists.{gathered_told}
use Rattle.install_journal.proofs.reading.read_plan.Goals as goal

pub returns-clause-gathered : goal.returns-clause-gathered
returns-clause-gathered g c =
    gathered_told (g.F.Folder.told c.args.folder.now) c.in_ok-count.field-0 c.in_ok-oldest.oldest c.in_ok-count.ensures.read c.in_ok-oldest.ensures
