use Rattle.std.proofs.Common.{◌≡◌, ◌+◌, ◌-◌, arith}
use Rattle.backup_store.specs.KeepingAll.{IsMarkAmong}
use Rattle.backup_store.specs.Places.{mark_path}
use Rattle.backup_store.proofs.Filings.{among_here, can_mark_told, err_is, leaves_only, mark_among, marked_next, only_next, still_marks, wider_marks}
use Rattle.backup_store.proofs.keeping_all.file_marks.Goals as goal

pub file_mark-requires : goal.file_mark-requires
file_mark-requires g c = can_mark_told c.args.first.0 c.args.count c.loop-place.place (g.F.Folder.told c.args.folder.now) (g.F.Folder.told c.loop-place.folder) c.loop-place-test.true c.requires.room
    (wider_marks c.args.first.0 c.loop-place.place c.args.count (g.F.Folder.told c.args.folder.now) (g.F.Folder.told c.loop-place.folder) (omega (arith, c.loop-place-test.true)) c.loop-place.invariant.only)

pub returns-in_err-file_mark-clause-only : goal.returns-in_err-file_mark-clause-only
returns-in_err-file_mark-clause-only g c =
    let told = g.F.Folder.told in
    let first = c.args.first.0 in
    let place = c.loop-place.place in
    only_next (IsMarkAmong first c.args.count) (λ p. p ≡ mark_path (first + place)) (mark_among first c.args.count (first + place) (among_here first c.args.count place c.loop-place-test.true))
    (told c.args.folder.now) (told c.loop-place.folder) (told c.file_mark.new.folder)
    (wider_marks first place c.args.count (told c.args.folder.now) (told c.loop-place.folder) (omega (arith, c.loop-place-test.true)) c.loop-place.invariant.only) c.file_mark.ensures.only

pub returns-in_err-file_mark-clause-no_memory : goal.returns-in_err-file_mark-clause-no_memory
returns-in_err-file_mark-clause-no_memory g c no_memory =
    let told = g.F.Folder.told in
    still_marks c.args.first.0 c.loop-place.place (c.args.count - 1) (told c.args.folder.now) (told c.loop-place.folder) (told c.file_mark.new.folder) (omega (arith, c.loop-place-test.true)) c.loop-place.invariant.only
    (c.in_err-file_mark.ensures.no_memory (err_is c.from_residual.result _ _ c.from_residual.ensures.1 no_memory))

pub returns-in_err-file_mark-clause-leaves : goal.returns-in_err-file_mark-clause-leaves
returns-in_err-file_mark-clause-leaves g c =
    let told = g.F.Folder.told in
    let left = g.F.Folder.left_since in
    let first = c.args.first.0 in
    let place = c.loop-place.place in
    leaves_only (IsMarkAmong first c.args.count) (λ p. p ≡ mark_path (first + place)) (mark_among first c.args.count (first + place) (among_here first c.args.count place c.loop-place-test.true))
    (told c.args.folder.now) (told c.loop-place.folder) (told c.file_mark.new.folder) (left c.args.folder.now) (left c.loop-place.folder) (left c.file_mark.new.folder)
    (wider_marks first place c.args.count (told c.args.folder.now) (told c.loop-place.folder) (omega (arith, c.loop-place-test.true)) c.loop-place.invariant.only) c.file_mark.ensures.only c.file_mark.ensures.time c.loop-place.invariant.leaves

pub loop-place-preserved : goal.loop-place-preserved
loop-place-preserved g c =
    let told = g.F.Folder.told in
    let left = g.F.Folder.left_since in
    let first = c.args.first.0 in
    let place = c.loop-place.place in
    let cause = c.file_mark.ensures.cause in
    record {
      marks = marked_next first place (told c.args.folder.now) (told c.loop-place.folder) (told c.file_mark.new.folder) (omega (arith, c.loop-place-test.true, c.requires.range)) c.loop-place.invariant.marks c.in_ok-file_mark.ensures.sets;
      only = only_next (IsMarkAmong first (place + 1)) (λ p. p ≡ mark_path (first + place)) (mark_among first (place + 1) (first + place) (among_here first (place + 1) place (omega arith)))
          (told c.args.folder.now) (told c.loop-place.folder) (told c.file_mark.new.folder)
          (wider_marks first place (place + 1) (told c.args.folder.now) (told c.loop-place.folder) (omega arith) c.loop-place.invariant.only) c.file_mark.ensures.only;
      leaves = leaves_only (IsMarkAmong first c.args.count) (λ p. p ≡ mark_path (first + place)) (mark_among first c.args.count (first + place) (among_here first c.args.count place c.loop-place-test.true))
          (told c.args.folder.now) (told c.loop-place.folder) (told c.file_mark.new.folder) (left c.args.folder.now) (left c.loop-place.folder) (left c.file_mark.new.folder)
          (wider_marks first place c.args.count (told c.args.folder.now) (told c.loop-place.folder) (omega (arith, c.loop-place-test.true)) c.loop-place.invariant.only) c.file_mark.ensures.only c.file_mark.ensures.time c.loop-place.invariant.leaves;
      later = omega (arith, c.loop-place.invariant.later, cause.later);
    }
