use Rattle.std.proofs.Common.{List, ℕ, Option, ◌≡◌, None, sym, ◌∙◌, subst}
use Rattle.std.proofs.lemmas.Result.{IfOk-weaker}
use Rattle.folder_core.specs.Folder.{Map}
use Rattle.folder_core.specs.Step.{OnTold}
use Rattle.backup_store.specs.declared.entry.Entry.{Entry}
use Rattle.install_journal.specs.Broken.{AreSound}
use Rattle.install_journal.specs.Firsts.{Finds}
use Rattle.install_journal.specs.Fitting.{AreInOrder, IsBare, IsLooseHere}
use Rattle.install_journal.specs.Plan.{FitsOrShows}
use Rattle.install_journal.proofs.Damages.{found_none, looks_then, looks_back}
use Rattle.install_journal.proofs.FittingsPlan.{uncovered_told, fits_told}
use Rattle.install_journal.proofs.fitting.find_unfit.Goals as goal

pub returns-then-is_some-clause-found : goal.returns-then-is_some-clause-found
returns-then-is_some-clause-found g c =
    uncovered_told (g.F.Folder.told c.args.folder.now) c.args.plan.now c.items-oldest.result.now c.items-oldest.ensures (g.met.F.Folder.image_now c.args.folder.now) c.requires
    c.in_ok-uncovered.uncovered (sym c.is_some.ensures ∙ c.if-is_some.true) c.in_ok-uncovered.ensures.found

pub returns-clause-found : goal.returns-clause-found
returns-clause-found g c =
    let none : c.in_ok-uncovered.uncovered ≡ None = found_none c.in_ok-uncovered.uncovered c.is_some.result c.is_some.ensures c.if-is_some.false in
    let all = subst (λ (o : Option (List (List ℕ))). OnTold (g.F.Folder.told c.args.folder.now) (λ s. AreInOrder c.items-oldest.result.now → Finds (IsBare c.items-oldest.result.now s.now) o)) none c.in_ok-uncovered.ensures.found in
    IfOk-weaker c.first_loose.result
    (λ found. OnTold (g.F.Folder.told c.first_uncovered.new.folder) (λ t. AreInOrder c.items-oldest.result.now → Finds (IsLooseHere c.items-oldest.result.now t.now) found))
    (λ found. OnTold (g.F.Folder.told c.args.folder.now) (λ s. (entries : List Entry) → AreSound s.now entries → FitsOrShows entries s.now found))
    (λ found finds. fits_told (g.F.Folder.told c.args.folder.now) c.args.plan.now c.items-oldest.result.now c.items-oldest.ensures (g.met.F.Folder.image_now c.args.folder.now) c.requires found all
    (looks_back g.F.Folder.told g.F.Folder.left_since c.args.folder.now c.first_uncovered.new.folder (λ (m : Map). AreInOrder c.items-oldest.result.now → Finds (IsLooseHere c.items-oldest.result.now m) found) c.first_uncovered.ensures.looks finds))
    c.first_loose.ensures.found

pub returns-clause-looks : goal.returns-clause-looks
returns-clause-looks g c =
    looks_then g.F.Folder.told g.F.Folder.left_since c.args.folder.now c.first_uncovered.new.folder c.first_loose.new.folder c.first_uncovered.ensures.looks c.first_loose.ensures.looks
