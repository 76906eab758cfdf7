use Rattle.std.proofs.Common.{◌≡◌, ◌+◌, length, arith}
use Rattle.backup_store.specs.KeepingAll.{IsFileAmong}
use Rattle.backup_store.specs.Places.{entry_path}
use Rattle.backup_store.proofs.Filings.{among_here, can_file_told, file_among, filed_next, leaves_only, only_next}
use Rattle.backup_store.proofs.InTurn.{touch_here, touches_front}
use Rattle.backup_store.proofs.keeping_all.file_entries.Goals as goal

pub file_entry-requires-clause-place : goal.file_entry-requires-clause-place
file_entry-requires-clause-place g c = can_file_told c.args.first.0 (length c.args.touches.now) c.loop-place.place (g.F.Folder.told c.args.folder.now) (g.F.Folder.told c.loop-place.folder) c.loop-place-test.true c.requires.room c.loop-place.invariant.only

pub returns-in_err-file_entry-clause-only : goal.returns-in_err-file_entry-clause-only
returns-in_err-file_entry-clause-only g c =
    let told = g.F.Folder.told in
    let first = c.args.first.0 in
    let count = length c.args.touches.now in
    let place = c.loop-place.place in
    only_next (IsFileAmong first count) (λ p. p ≡ entry_path (first + place)) (file_among first count (first + place) (among_here first count place c.loop-place-test.true))
    (told c.args.folder.now) (told c.loop-place.folder) (told c.file_entry.new.folder) c.loop-place.invariant.only c.file_entry.ensures.only

pub returns-in_err-file_entry-clause-leaves : goal.returns-in_err-file_entry-clause-leaves
returns-in_err-file_entry-clause-leaves g c =
    let told = g.F.Folder.told in
    let left = g.F.Folder.left_since in
    let first = c.args.first.0 in
    let count = length c.args.touches.now in
    let place = c.loop-place.place in
    leaves_only (IsFileAmong first count) (λ p. p ≡ entry_path (first + place)) (file_among first count (first + place) (among_here first count place c.loop-place-test.true))
    (told c.args.folder.now) (told c.loop-place.folder) (told c.file_entry.new.folder) (left c.args.folder.now) (left c.loop-place.folder) (left c.file_entry.new.folder)
    c.loop-place.invariant.only c.file_entry.ensures.only c.file_entry.ensures.time c.loop-place.invariant.leaves

pub file_entry-requires-clause-earlier : goal.file_entry-requires-clause-earlier
file_entry-requires-clause-earlier g c = touches_front c.args.touches.now c.loop-place.place c.requires.touches

pub file_entry-requires-clause-outside : goal.file_entry-requires-clause-outside
file_entry-requires-clause-outside g c = (touch_here c.args.touches.now c.loop-place.place _ c.loop-place-test.true c.requires.touches).outside

pub loop-place-preserved : goal.loop-place-preserved
loop-place-preserved g c =
    let told = g.F.Folder.told in
    let left = g.F.Folder.left_since in
    let first = c.args.first.0 in
    let count = length c.args.touches.now in
    let place = c.loop-place.place in
    let cause = c.file_entry.ensures.cause in
    record {
      files = filed_next first c.args.touches.now place _ (told c.args.folder.now) (told c.loop-place.folder) (told c.file_entry.new.folder) c.loop-place-test.true c.requires.range c.requires.touches
          c.loop-place.invariant.only c.loop-place.invariant.files c.in_ok-file_entry.ensures.entry c.in_ok-file_entry.ensures.sets;
      only = only_next (IsFileAmong first count) (λ p. p ≡ entry_path (first + place)) (file_among first count (first + place) (among_here first count place c.loop-place-test.true))
          (told c.args.folder.now) (told c.loop-place.folder) (told c.file_entry.new.folder) c.loop-place.invariant.only c.file_entry.ensures.only;
      leaves = leaves_only (IsFileAmong first count) (λ p. p ≡ entry_path (first + place)) (file_among first count (first + place) (among_here first count place c.loop-place-test.true))
          (told c.args.folder.now) (told c.loop-place.folder) (told c.file_entry.new.folder) (left c.args.folder.now) (left c.loop-place.folder) (left c.file_entry.new.folder)
          c.loop-place.invariant.only c.file_entry.ensures.only c.file_entry.ensures.time c.loop-place.invariant.leaves;
      later = omega (arith, c.loop-place.invariant.later, cause.later);
    }
