use Rattle.std.proofs.Common.{◌⊎◌}
use Rattle.folder_core.specs.Crash.{IsImage}
use Rattle.folder_core.proofs.Moments.{holds_now}
use Rattle.backup_store.specs.Keeping.{HasNoMark, LeavesEntry, IsBegun}
use Rattle.backup_store.specs.Looking.{IsStill}
use Rattle.backup_store.specs.Settling.{IsTouchedImage, IsSettled, IsUnsettled}
use Rattle.backup_store.proofs.KeepingLemmas.{begun_still, begun, IsEither, IsReady, leaves_entered, no_mark_entered, still_leaves, ready, images_still}
use Rattle.backup_store.proofs.Moments.{on_two, on_told, leaves_next, images_then, either_way, step_either, err_map}
use Rattle.backup_store.proofs.SettlingLemmas.{on_err}
use Rattle.backup_store.proofs.keeping.enter.Goals as goal

pub returns-in_err-touch-clause-err : goal.returns-in_err-touch-clause-err
returns-in_err-touch-clause-err g c =
    let told = g.F.Folder.told in
    let k = c.args.number.0 in
    on_err c.from_residual.result
    (on_told (told c.args.folder.now) (told c.prepare.new.folder) (λ s. HasNoMark k s.now) IsStill (λ s t. IsBegun s k t) (begun_still k)
    (holds_now (told c.args.folder.now) (HasNoMark k) (g.met.F.Folder.image_now c.args.folder.now) c.requires.no_mark) c.prepare.ensures.still)

pub returns-in_err-touch-clause-no_mark : goal.returns-in_err-touch-clause-no_mark
returns-in_err-touch-clause-no_mark g c =
    let told = g.F.Folder.told in
    images_still (told c.args.folder.now) (told c.prepare.new.folder) (HasNoMark c.args.number.0) c.requires.no_mark c.prepare.ensures.still

pub returns-in_err-touch-clause-leaves : goal.returns-in_err-touch-clause-leaves
returns-in_err-touch-clause-leaves g c =
    let told = g.F.Folder.told in
    let left = g.F.Folder.left_since in
    still_leaves c.args.number.0 c.args.path.now (told c.args.folder.now) (told c.prepare.new.folder) (left c.args.folder.now) (left c.prepare.new.folder)
    (g.met.F.Folder.only_now c.args.folder.now) c.requires.no_mark c.prepare.ensures.still c.prepare.ensures.time

pub returns-clause-err : goal.returns-clause-err
returns-clause-err g c =
    let told = g.F.Folder.told in
    let k = c.args.number.0 in
    let old = told c.args.folder.now in
    let mid = told c.prepare.new.folder in
    let touch = c.in_ok-touch.touch in
    let none = holds_now old (HasNoMark k) (g.met.F.Folder.image_now c.args.folder.now) c.requires.no_mark in
    err_map c.settle.result
    (λ step. on_two old mid (told c.settle.new.folder) (λ s t. HasNoMark k s.now × IsStill s t) (IsUnsettled touch) (λ s t. IsBegun s k t)
    (λ s t u first second. begun k touch s t u c.in_ok-touch.ensures.place first.0 first.1 second)
    (on_told old mid (λ s. HasNoMark k s.now) IsStill (λ s t. HasNoMark k s.now × IsStill s t) (λ s t a b. (a, b)) none c.prepare.ensures.still) step)
    c.settle.ensures.err

pub returns-clause-no_mark : goal.returns-clause-no_mark
returns-clause-no_mark g c =
    let told = g.F.Folder.told in
    let k = c.args.number.0 in
    let path = c.args.path.now in
    let old = told c.args.folder.now in
    let mid = told c.prepare.new.folder in
    let new = told c.settle.new.folder in
    let touch = c.in_ok-touch.touch in
    images_then old mid new (HasNoMark k) (λ s t. IsReady k path touch s × IsStill s t) (IsEither touch) (no_mark_entered k path touch)
    (ready k path touch old mid c.in_ok-touch.ensures.range (g.met.F.Folder.image_now c.args.folder.now) c.requires.room c.requires.no_mark c.in_ok-touch.ensures.entry c.in_ok-touch.ensures.touch c.prepare.ensures.still)
    (step_either mid new (IsSettled touch) (IsUnsettled touch) (either_way c.settle.result c.settle.ensures.ok c.settle.ensures.err))

pub returns-clause-leaves : goal.returns-clause-leaves
returns-clause-leaves g c =
    let told = g.F.Folder.told in
    let left = g.F.Folder.left_since in
    let k = c.args.number.0 in
    let path = c.args.path.now in
    let old = told c.args.folder.now in
    let mid = told c.prepare.new.folder in
    let new = told c.settle.new.folder in
    let touch = c.in_ok-touch.touch in
    leaves_next old mid new (left c.args.folder.now) (left c.prepare.new.folder) (left c.settle.new.folder) (λ s m. LeavesEntry s k path m) (λ s t m. IsTouchedImage touch.path s m ⊎ IsImage t m)
    (λ s t. IsReady k path touch s × IsStill s t) (IsEither touch) (leaves_entered k path touch)
    (ready k path touch old mid c.in_ok-touch.ensures.range (g.met.F.Folder.image_now c.args.folder.now) c.requires.room c.requires.no_mark c.in_ok-touch.ensures.entry c.in_ok-touch.ensures.touch c.prepare.ensures.still)
    (step_either mid new (IsSettled touch) (IsUnsettled touch) (either_way c.settle.result c.settle.ensures.ok c.settle.ensures.err))
    c.settle.ensures.time
    (still_leaves k path old mid (left c.args.folder.now) (left c.prepare.new.folder)
    (g.met.F.Folder.only_now c.args.folder.now) c.requires.no_mark c.prepare.ensures.still c.prepare.ensures.time)
