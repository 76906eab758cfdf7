use Rattle.std.proofs.Common.{arith}
use Rattle.folder_core.specs.Folder.{Map}
use Rattle.install_journal.specs.Reading.{IsReadTo}
use Rattle.install_journal.proofs.Damages.{looks_then, looks_back}
use Rattle.install_journal.proofs.ReadingSteps.{apply_told}
use Rattle.install_journal.proofs.reading.read_all.Goals as goal

pub returns-in_err-read_next-clause-looks : goal.returns-in_err-read_next-clause-looks
returns-in_err-read_next-clause-looks g c =
    looks_then g.F.Folder.told g.F.Folder.left_since c.args.folder.now c.entries.folder c.read_next.new.folder c.entries.invariant.looks c.read_next.ensures.looks

pub returns-then-not-branch-clause-looks : goal.returns-then-not-branch-clause-looks
returns-then-not-branch-clause-looks g c =
    looks_then g.F.Folder.told g.F.Folder.left_since c.args.folder.now c.entries.folder c.read_next.new.folder c.entries.invariant.looks c.read_next.ensures.looks

pub entries-preserved : goal.entries-preserved
entries-preserved g c =
    let told = g.F.Folder.told in
    let left = g.F.Folder.left_since in
    let start = c.args.folder.now in
    let had = c.entries.gathered in
    let has = c.read_next.new.gathered in
    record {
      looks = looks_then told left start c.entries.folder c.read_next.new.folder c.entries.invariant.looks c.read_next.ensures.looks;
      later = let cause = c.read_next.ensures.cause in omega (arith, c.entries.invariant.later, cause.later);
      read = apply_told (told start) (λ s. IsReadTo s.now had) (λ s. IsReadTo s.now has)
          (looks_back told left start c.entries.folder (λ (m : Map). IsReadTo m had → IsReadTo m has) c.entries.invariant.looks (c.in_ok-read_next.ensures.more c.if-not-branch.false))
          c.entries.invariant.read;
    }
