use Rattle.std.proofs.Common.{◌≡◌, ℕ, ◌+◌, ◌-◌, take, arith, ap, subst, ◌∙◌}
use Rattle.folder_core.specs.Step.{Step}
use Rattle.backup_store.specs.KeepingAll.{HoldEntries}
use Rattle.backup_store.specs.Turns.{entries_in_turn, set_in_turn}
use Rattle.install_journal.specs.Overlay.{SameOutside}
use Rattle.install_journal.specs.declared.change.Change.{Change}
use Rattle.install_journal.proofs.Backs.{restores_and_then}
use Rattle.install_journal.proofs.Finishings.{same_restores}
use Rattle.install_journal.proofs.Runs.{step_each}
use Rattle.install_journal.proofs.TouchesDone.{KeepsTexts, refused_kept, refused_left, hold_none, texts_stay, all_sets, all_reached, all_untouched, all_entries}
use Rattle.install_journal.proofs.change.Change.touch_all.Goals as goal

pub returns-then-touches-self-clause-restores : goal.returns-then-touches-self-clause-restores
returns-then-touches-self-clause-restores g c =
    same_restores g.F.Folder.told g.F.Folder.left_since c.args.self.now c.args.folder.now c.requires.«open» (g.met.F.Folder.image_now c.args.folder.now) (g.met.F.Folder.only_now c.args.folder.now)

pub returns-in-Err-clause-entries : goal.returns-in-Err-clause-entries
returns-in-Err-clause-entries g c same =
    let refuses = c.in-Err.ensures.refused.1 in
    let kept = ap (λ (x : Change). x.kept) refuses ∙ refused_kept _ c.args.self.now in
    step_each (g.F.Folder.told c.args.folder.now) (g.F.Folder.told c.keep_entries.new.folder) (λ s t. SameOutside t.now s.now)
    (λ s t. HoldEntries t.now (c.args.self.now.kept + 1) (entries_in_turn c.args.touches.now s.now))
    (λ s t is. hold_none c.args.touches.now s.now t.now (c.args.self.now.kept + 1) (omega (arith, same, kept))) c.keep_entries.ensures.same

pub returns-in-Err-clause-untouched : goal.returns-in-Err-clause-untouched
returns-in-Err-clause-untouched g c other =
    let refuses = c.in-Err.ensures.refused.1 in
    let left = ap (λ (x : Change). x.left) refuses ∙ refused_left _ c.args.self.now in
    let none : 0 ≡ c.keep_entries.new.self.left - c.args.self.now.left - 1 = omega (arith, left) in
    subst (λ (n : ℕ). Step (g.F.Folder.told c.args.folder.now) (g.F.Folder.told c.keep_entries.new.folder) (λ s t. SameOutside t.now (set_in_turn (take n c.args.touches.now) s.now))) none
    c.keep_entries.ensures.same

pub returns-in-Ok-clause-entries : goal.returns-in-Ok-clause-entries
returns-in-Ok-clause-entries g c _ =
    let told = g.F.Folder.told in
    all_entries c.args.touches.now (c.args.self.now.kept + 1) (told c.args.folder.now) (told c.keep_entries.new.folder) (told c.set_all.new.folder) c.in-Ok.ensures.entries
    (texts_stay c.args.touches.now c.keep_entries.new.self c.set_all.new.self (told c.keep_entries.new.folder) (told c.set_all.new.folder) c.set_all.result c.requires.touches (c.set_all.ensures.sets, c.set_all.ensures.cut))

pub returns-in-Ok-clause-sets : goal.returns-in-Ok-clause-sets
returns-in-Ok-clause-sets g c =
    let told = g.F.Folder.told in
    all_sets c.args.touches.now c.args.self.now c.keep_entries.new.self c.set_all.new.self c.in-Ok.ensures.kept (told c.args.folder.now) (told c.keep_entries.new.folder) (told c.set_all.new.folder) c.keep_entries.ensures.same
    c.set_all.result (c.set_all.ensures.sets, c.set_all.ensures.cut)

pub returns-in-Ok-clause-reached : goal.returns-in-Ok-clause-reached
returns-in-Ok-clause-reached g c =
    let told = g.F.Folder.told in
    all_reached c.args.touches.now c.args.self.now c.keep_entries.new.self c.set_all.new.self c.in-Ok.ensures.kept (told c.args.folder.now) (told c.keep_entries.new.folder) (told c.set_all.new.folder) c.keep_entries.ensures.same
    c.set_all.result (c.set_all.ensures.sets, c.set_all.ensures.cut)

pub returns-in-Ok-clause-untouched : goal.returns-in-Ok-clause-untouched
returns-in-Ok-clause-untouched g c =
    let told = g.F.Folder.told in
    all_untouched c.args.touches.now c.args.self.now c.keep_entries.new.self c.set_all.new.self c.in-Ok.ensures.kept (told c.args.folder.now) (told c.keep_entries.new.folder) (told c.set_all.new.folder) c.keep_entries.ensures.same
    c.set_all.result (c.set_all.ensures.sets, c.set_all.ensures.cut)

pub returns-in-Ok-clause-restores : goal.returns-in-Ok-clause-restores
returns-in-Ok-clause-restores g c =
    let told = g.F.Folder.told in
    restores_and_then told g.F.Folder.left_since c.args.folder.now c.keep_entries.new.folder c.set_all.new.folder (g.met.F.Folder.image_now c.keep_entries.new.folder) (g.met.F.Folder.counts_now c.keep_entries.new.folder)
    c.keep_entries.ensures.restores KeepsTexts
    (texts_stay c.args.touches.now c.keep_entries.new.self c.set_all.new.self (told c.keep_entries.new.folder) (told c.set_all.new.folder) c.set_all.result c.requires.touches (c.set_all.ensures.sets, c.set_all.ensures.cut))
    c.set_all.ensures.restores
