use Rattle.std.proofs.Common.{◌≡◌, ◌≤◌, ◌+◌, inl, inr, length}
use Rattle.folder_core.proofs.Moments.{formed_now}
use Rattle.backup_store.specs.Filing.{AreEntered, AreCompleted}
use Rattle.backup_store.specs.KeepingAll.{HasNoMark, IsFileAmong, IsMarkAmong, TouchesOnly, IsImageBut, LeavesEntries, HaveCome, AreAllKept, AllCount}
use Rattle.backup_store.specs.Turns.{entries_in_turn}
use Rattle.backup_store.proofs.KeepingAllLemmas.{AreClear, clear_told, come_told, count_all, images_each, kept_all, last_unmarked, leaves_as, leaves_then, marked_image, none_unmarked, room_for_marks_told, unmarked_all}
use Rattle.backup_store.proofs.Moments.{on_two, on_step, images_told, either_way, step_either, ok_map}
use Rattle.backup_store.proofs.keeping_all.keep_all.Goals as goal

pub mark_all-requires-clause-room : goal.mark_all-requires-clause-room
mark_all-requires-clause-room g c =
    let told = g.F.Folder.told in
    let old = told c.args.folder.now in
    let mid = told c.enter_all.new.folder in
    room_for_marks_told c.args.first.0 c.args.touches.now c.requires.range old mid
    (clear_told c.args.first.0 (length c.args.touches.now) old c.requires.range (g.met.F.Folder.image_now c.args.folder.now) c.requires.room c.requires.no_marks) c.requires.room
    c.in_ok-enter_all.ensures.entered (formed_now mid (g.met.F.Folder.image_now c.enter_all.new.folder))

pub returns-in_err-enter_all-clause-come : goal.returns-in_err-enter_all-clause-come
returns-in_err-enter_all-clause-come g c =
    on_step (g.F.Folder.told c.args.folder.now) (g.F.Folder.told c.enter_all.new.folder) (TouchesOnly (IsFileAmong c.args.first.0 (length c.args.touches.now))) (λ s t. HaveCome s c.args.first.0 c.args.touches.now t) (λ s t only. inl only) c.in_err-enter_all.ensures.only

pub returns-in_err-enter_all-clause-leaves : goal.returns-in_err-enter_all-clause-leaves
returns-in_err-enter_all-clause-leaves g c =
    let told = g.F.Folder.told in
    let left = g.F.Folder.left_since in
    let first = c.args.first.0 in
    let count = length c.args.touches.now in
    let old = told c.args.folder.now in
    leaves_as old (told c.enter_all.new.folder) (left c.args.folder.now) (left c.enter_all.new.folder) (AreClear first count) (λ s m. IsImageBut (IsFileAmong first count) s m) (λ s m. LeavesEntries s first c.args.touches.now m)
    (λ s m clear image. inl (unmarked_all first c.args.touches.now c.requires.range s m clear image))
    (clear_told first count old c.requires.range (g.met.F.Folder.image_now c.args.folder.now) c.requires.room c.requires.no_marks) c.enter_all.ensures.leaves

pub returns-in_err-enter_all-clause-no_memory : goal.returns-in_err-enter_all-clause-no_memory
returns-in_err-enter_all-clause-no_memory g c _ =
    let told = g.F.Folder.told in
    let first = c.args.first.0 in
    let old = told c.args.folder.now in
    images_each (told c.enter_all.new.folder) HasNoMark (λ k. first ≤ k) (λ k. k + 1 ≡ first + length c.args.touches.now)
    (none_unmarked first c.args.touches.now old (told c.enter_all.new.folder) c.requires.range
    (clear_told first (length c.args.touches.now) old c.requires.range (g.met.F.Folder.image_now c.args.folder.now) c.requires.room c.requires.no_marks) c.in_err-enter_all.ensures.only)

pub returns-clause-kept : goal.returns-clause-kept
returns-clause-kept g c =
    let told = g.F.Folder.told in
    let first = c.args.first.0 in
    let touches = c.args.touches.now in
    ok_map c.mark_all.result
    (λ step. on_two (told c.args.folder.now) (told c.enter_all.new.folder) (told c.mark_all.new.folder) (λ s t. AreEntered s first touches t) (λ t u. AreCompleted t first (length touches) u) (λ s u. AreAllKept s first touches u)
    (λ s t u entered completed. kept_all first touches c.requires.range s t entered u completed) c.in_ok-enter_all.ensures.entered step)
    c.mark_all.ensures.marked

pub returns-clause-counted : goal.returns-clause-counted
returns-clause-counted g c =
    let told = g.F.Folder.told in
    let first = c.args.first.0 in
    let touches = c.args.touches.now in
    ok_map c.mark_all.result
    (λ step. images_told (told c.args.folder.now) (told c.enter_all.new.folder) (told c.mark_all.new.folder) (λ s m. AllCount m first (entries_in_turn touches s.now)) (λ s t. AreEntered s first touches t) (λ t u. AreCompleted t first (length touches) u)
    (λ s t u entered completed. count_all first touches c.requires.range s t entered u completed) c.in_ok-enter_all.ensures.entered step)
    c.mark_all.ensures.marked

pub returns-clause-no_memory : goal.returns-clause-no_memory
returns-clause-no_memory g c no_memory =
    let told = g.F.Folder.told in
    let first = c.args.first.0 in
    let old = told c.args.folder.now in
    let mid = told c.enter_all.new.folder in
    let new = told c.mark_all.new.folder in
    images_each new HasNoMark (λ k. first ≤ k) (λ k. k + 1 ≡ first + length c.args.touches.now)
    (last_unmarked first c.args.touches.now c.requires.range old mid new c.in_ok-enter_all.ensures.entered (formed_now mid (g.met.F.Folder.image_now c.enter_all.new.folder))
    (clear_told first (length c.args.touches.now) old c.requires.range (g.met.F.Folder.image_now c.args.folder.now) c.requires.room c.requires.no_marks) (c.mark_all.ensures.no_memory no_memory))

pub returns-clause-come : goal.returns-clause-come
returns-clause-come g c =
    let told = g.F.Folder.told in
    let first = c.args.first.0 in
    let count = length c.args.touches.now in
    let mid = told c.enter_all.new.folder in
    let new = told c.mark_all.new.folder in
    come_told first c.args.touches.now c.requires.range (told c.args.folder.now) mid new c.in_ok-enter_all.ensures.entered (formed_now mid (g.met.F.Folder.image_now c.enter_all.new.folder)) (formed_now new (g.met.F.Folder.image_now c.mark_all.new.folder))
    (step_either mid new (λ t u. AreCompleted t first count u) (TouchesOnly (IsMarkAmong first count)) (either_way c.mark_all.result c.mark_all.ensures.marked c.mark_all.ensures.only))

pub returns-clause-leaves : goal.returns-clause-leaves
returns-clause-leaves g c =
    let told = g.F.Folder.told in
    let left = g.F.Folder.left_since in
    let first = c.args.first.0 in
    let touches = c.args.touches.now in
    let old = told c.args.folder.now in
    leaves_then old (told c.enter_all.new.folder) (told c.mark_all.new.folder) (left c.args.folder.now) (left c.enter_all.new.folder) (left c.mark_all.new.folder)
    (AreClear first (length touches)) (λ s t. AreEntered s first touches t) (λ s m. IsImageBut (IsFileAmong first (length touches)) s m) (λ t m. IsImageBut (IsMarkAmong first (length touches)) t m) (λ s m. LeavesEntries s first touches m)
    (λ s m clear image. inl (unmarked_all first touches c.requires.range s m clear image)) (λ s t m entered image. inr (marked_image first touches c.requires.range s t entered m image))
    (clear_told first (length touches) old c.requires.range (g.met.F.Folder.image_now c.args.folder.now) c.requires.room c.requires.no_marks) c.in_ok-enter_all.ensures.entered c.enter_all.ensures.leaves c.mark_all.ensures.leaves
