use Rattle.std.proofs.Common.{◌⊎◌}
use Rattle.folder_core.specs.Folder.{IsFormed, CanSet}
use Rattle.folder_core.specs.Crash.{IsImage}
use Rattle.folder_core.proofs.Moments.{holds_now, formed_now}
use Rattle.backup_store.specs.Keeping.{HasNoMark, HasRoom, SameButEntry, LeavesEntry, HasCome, IsKept, IsCounted}
use Rattle.backup_store.specs.Places.{mark_path}
use Rattle.backup_store.specs.Settling.{IsTouchedImage, IsSettled, IsUnsettled, IsEntered, mark_touch}
use Rattle.backup_store.proofs.KeepingLemmas.{IsEither, can_mark, marked_elsewhere, leaves_marked, come_marked, kept_marked, counted_marked, images_still}
use Rattle.backup_store.proofs.Moments.{on_two, on_told, on_told_new, on_new, on_both_told, leaves_next, images_told, either_way, step_either, ok_map}
use Rattle.backup_store.proofs.keeping.keep.Goals as goal

pub mark-requires : goal.mark-requires
mark-requires g c =
    let told = g.F.Folder.told in
    let k = c.args.number.0 in
    let path = c.args.path.now in
    let old = told c.args.folder.now in
    let new = told c.enter.new.folder in
    let none = holds_now old (HasNoMark k) (g.met.F.Folder.image_now c.args.folder.now) c.requires.no_mark in
    let formed = formed_now new (g.met.F.Folder.image_now c.enter.new.folder) in
    let facts = on_both_told old (λ s. HasRoom s k) (λ s. HasNoMark k s.now) (λ s. HasRoom s k × HasNoMark k s.now) (λ s a b. (a, b)) c.requires.room none in
    let step = on_told old new (λ s. HasRoom s k × HasNoMark k s.now) (λ s t. IsEntered s k path t) (λ s t. (HasRoom s k × HasNoMark k s.now) × IsEntered s k path t) (λ s t a b. (a, b)) facts c.in_ok-enter.ensures.ok in
    on_new old new (λ s t. CanSet t.now (mark_path k)) (λ t. CanSet t.now (mark_path k)) (λ s t can. can)
    (on_told_new old new (λ t. IsFormed t.now) (λ s t. (HasRoom s k × HasNoMark k s.now) × IsEntered s k path t) (λ s t. CanSet t.now (mark_path k))
    (λ s t formed both. can_mark k path s t both.0.0 both.0.1 both.1 formed) formed step)

pub returns-clause-kept : goal.returns-clause-kept
returns-clause-kept g c =
    let told = g.F.Folder.told in
    let k = c.args.number.0 in
    let path = c.args.path.now in
    ok_map c.mark.result
    (λ step. on_two (told c.args.folder.now) (told c.enter.new.folder) (told c.mark.new.folder) (λ s t. IsEntered s k path t) (IsSettled (mark_touch k)) (λ s t. IsKept s k path t) (kept_marked k path) c.in_ok-enter.ensures.ok step)
    c.mark.ensures.ok

pub returns-clause-counted : goal.returns-clause-counted
returns-clause-counted g c =
    let told = g.F.Folder.told in
    let k = c.args.number.0 in
    let path = c.args.path.now in
    ok_map c.mark.result
    (λ step. images_told (told c.args.folder.now) (told c.enter.new.folder) (told c.mark.new.folder) (λ s. IsCounted s k path) (λ s t. IsEntered s k path t) (IsSettled (mark_touch k)) (counted_marked k path) c.in_ok-enter.ensures.ok step)
    c.mark.ensures.ok

pub returns-clause-no_memory : goal.returns-clause-no_memory
returns-clause-no_memory g c no_memory =
    let told = g.F.Folder.told in
    images_still (told c.enter.new.folder) (told c.mark.new.folder) (HasNoMark c.args.number.0) c.in_ok-enter.ensures.no_mark (c.mark.ensures.no_memory no_memory)

pub returns-clause-elsewhere : goal.returns-clause-elsewhere
returns-clause-elsewhere g c =
    let told = g.F.Folder.told in
    let k = c.args.number.0 in
    let path = c.args.path.now in
    let mid = told c.enter.new.folder in
    let new = told c.mark.new.folder in
    on_two (told c.args.folder.now) mid new (λ s t. IsEntered s k path t) (IsEither (mark_touch k)) (λ s t. SameButEntry k s.now t.now) (marked_elsewhere k path) c.in_ok-enter.ensures.ok
    (step_either mid new (IsSettled (mark_touch k)) (IsUnsettled (mark_touch k)) (either_way c.mark.result c.mark.ensures.ok c.mark.ensures.err))

pub returns-clause-come : goal.returns-clause-come
returns-clause-come g c =
    let told = g.F.Folder.told in
    let k = c.args.number.0 in
    let path = c.args.path.now in
    let old = told c.args.folder.now in
    let mid = told c.enter.new.folder in
    let new = told c.mark.new.folder in
    let entered = on_told_new old mid (λ t. IsFormed t.now) (λ s t. IsEntered s k path t) (λ s t. IsEntered s k path t × IsFormed t.now) (λ s t a b. (b, a)) (formed_now mid (g.met.F.Folder.image_now c.enter.new.folder)) c.in_ok-enter.ensures.ok in
    let either = step_either mid new (IsSettled (mark_touch k)) (IsUnsettled (mark_touch k)) (either_way c.mark.result c.mark.ensures.ok c.mark.ensures.err) in
    let marked = on_told_new mid new (λ t. IsFormed t.now) (IsEither (mark_touch k)) (λ s t. IsEither (mark_touch k) s t × IsFormed t.now) (λ s t a b. (b, a)) (formed_now new (g.met.F.Folder.image_now c.mark.new.folder)) either in
    on_two old mid new (λ s t. IsEntered s k path t × IsFormed t.now) (λ s t. IsEither (mark_touch k) s t × IsFormed t.now) (λ s t. HasCome s k path t) (come_marked k path) entered marked

pub returns-clause-leaves : goal.returns-clause-leaves
returns-clause-leaves g c =
    let told = g.F.Folder.told in
    let left = g.F.Folder.left_since in
    let k = c.args.number.0 in
    let path = c.args.path.now in
    let mid = told c.enter.new.folder in
    let new = told c.mark.new.folder in
    leaves_next (told c.args.folder.now) mid new (left c.args.folder.now) (left c.enter.new.folder) (left c.mark.new.folder) (λ s m. LeavesEntry s k path m) (λ s t m. IsTouchedImage (mark_path k) s m ⊎ IsImage t m)
    (λ s t. IsEntered s k path t) (IsEither (mark_touch k)) (leaves_marked k path) c.in_ok-enter.ensures.ok
    (step_either mid new (IsSettled (mark_touch k)) (IsUnsettled (mark_touch k)) (either_way c.mark.result c.mark.ensures.ok c.mark.ensures.err))
    c.mark.ensures.time c.in_ok-enter.ensures.leaves
