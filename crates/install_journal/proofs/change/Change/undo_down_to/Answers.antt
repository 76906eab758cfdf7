use Rattle.std.proofs.Common.{refl, arith, ap, false}
use Rattle.std.specs.Bool.{⊤}
use Rattle.install_journal.specs.Open.{IsOpen}
use Rattle.install_journal.specs.declared.change.Change.{Change}
use Rattle.install_journal.proofs.Backs.{restores_and_then, shortened_again, puts_on, puts_none}
use Rattle.install_journal.proofs.Finishings.{same_restores}
use Rattle.install_journal.proofs.Opens.{open_unready}
use Rattle.install_journal.proofs.Runs.{on_each}
use Rattle.install_journal.proofs.change.Change.undo_down_to.Goals as goal

pub entries-init : goal.entries-init
entries-init g c = record {
  change = refl;
  rest = c.requires.rest;
  most = omega arith;
  began = on_each (g.F.Folder.told c.args.folder.now) (IsOpen c.args.self.now) (IsOpen (record c.args.self.now { ready = false })) (λ s. open_unready c.args.self.now s) c.requires.«open»;
  restores = same_restores g.F.Folder.told g.F.Folder.left_since c.args.self.now c.args.folder.now c.requires.«open» (g.met.F.Folder.image_now c.args.folder.now) (g.met.F.Folder.only_now c.args.folder.now);
  puts = puts_none (g.F.Folder.told c.args.folder.now) c.args.self.now.left;
  later = omega arith;
}

pub entries-preserved : goal.entries-preserved
entries-preserved g c =
    let inv = c.entries.invariant in
    let ok = c.in_ok-put_back_newest.ensures.ok in
    let less = c.entries-test.true in
    let now = ap (λ (x : Change). x.left) ok in
    let cause = c.put_back_newest.ensures.cause in
    record {
      change = shortened_again c.args.self.now c.entries.self c.put_back_newest.new.self _ inv.change ok;
      rest = omega (arith, less, now);
      most = omega (arith, less, now, inv.most);
      began = c.put_back_newest.ensures.«open»;
      restores = restores_and_then g.F.Folder.told g.F.Folder.left_since c.args.folder.now c.entries.folder c.put_back_newest.new.folder
          (g.met.F.Folder.image_now c.entries.folder) (g.met.F.Folder.counts_now c.entries.folder) inv.restores (λ s t. ⊤) c.put_back_newest.ensures.tells c.put_back_newest.ensures.restores;
      puts = puts_on (g.F.Folder.told c.args.folder.now) (g.F.Folder.told c.entries.folder) (g.F.Folder.told c.put_back_newest.new.folder)
          c.args.self.now.left c.entries.self.left c.put_back_newest.new.self.left inv.most (omega (arith, less, now)) inv.puts c.in_ok-put_back_newest.ensures.puts;
      later = omega (arith, inv.later, cause.later);
    }

pub returns-in_err-put_back_newest-clause-restores : goal.returns-in_err-put_back_newest-clause-restores
returns-in_err-put_back_newest-clause-restores g c =
    restores_and_then g.F.Folder.told g.F.Folder.left_since c.args.folder.now c.entries.folder c.put_back_newest.new.folder
    (g.met.F.Folder.image_now c.entries.folder) (g.met.F.Folder.counts_now c.entries.folder) c.entries.invariant.restores (λ s t. ⊤) c.put_back_newest.ensures.tells c.put_back_newest.ensures.restores
