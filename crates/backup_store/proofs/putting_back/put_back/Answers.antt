use Rattle.folder_core.specs.Folder.{SameBut}
use Rattle.folder_core.specs.Crash.{Touches}
use Rattle.backup_store.specs.PuttingBack.{SameButRestored, TouchesRestored}
use Rattle.backup_store.proofs.Moments.{on_two}
use Rattle.backup_store.proofs.PuttingLemmas.{found_some, room_back, IsFound, is_found, same_but_restored, touches_restored, time_then}
use Rattle.backup_store.proofs.putting_back.put_back.Goals as goal

pub set-requires-clause-place : goal.set-requires-clause-place
set-requires-clause-place g c =
    let old = g.F.Folder.told c.args.folder.now in
    let k = c.args.number.0 in
    let entry = c.in-Some.entry in
    room_back k entry.path entry.before old (g.F.Folder.told c.read_kept.new.folder) c.requires (found_some old k c.in_ok-found.found entry c.in-Some.is c.in_ok-found.ensures.found) c.read_kept.ensures.still

pub returns-in_err-set-in-Some-clause-elsewhere : goal.returns-in_err-set-in-Some-clause-elsewhere
returns-in_err-set-in-Some-clause-elsewhere g c =
    let told = g.F.Folder.told in
    let old = told c.args.folder.now in
    let mid = told c.read_kept.new.folder in
    let k = c.args.number.0 in
    let entry = c.in-Some.entry in
    on_two old mid (told c.set.new.self) (IsFound k entry) (λ s t. SameBut entry.path s.now t.now) (λ s t. SameButRestored k s.now t.now) (same_but_restored k entry)
    (is_found k entry old mid (found_some old k c.in_ok-found.found entry c.in-Some.is c.in_ok-found.ensures.found) c.read_kept.ensures.still) c.set.ensures.elsewhere

pub returns-in_err-set-in-Some-clause-crash : goal.returns-in_err-set-in-Some-clause-crash
returns-in_err-set-in-Some-clause-crash g c =
    let told = g.F.Folder.told in
    let old = told c.args.folder.now in
    let mid = told c.read_kept.new.folder in
    let k = c.args.number.0 in
    let entry = c.in-Some.entry in
    on_two old mid (told c.set.new.self) (IsFound k entry) (Touches entry.path) (TouchesRestored k) (touches_restored k entry)
    (is_found k entry old mid (found_some old k c.in_ok-found.found entry c.in-Some.is c.in_ok-found.ensures.found) c.read_kept.ensures.still) c.set.ensures.crash

pub returns-in_err-set-in-Some-clause-time : goal.returns-in_err-set-in-Some-clause-time
returns-in_err-set-in-Some-clause-time g c =
    let told = g.F.Folder.told in
    let left = g.F.Folder.left_since in
    time_then (told c.args.folder.now) (told c.read_kept.new.folder) (told c.set.new.self) (left c.args.folder.now) (left c.read_kept.new.folder) (left c.set.new.self)
    (g.met.F.Folder.counts_now c.args.folder.now) c.read_kept.ensures.still c.read_kept.ensures.time c.set.ensures.time

pub returns-in_ok-set-in-Some-clause-elsewhere : goal.returns-in_ok-set-in-Some-clause-elsewhere
returns-in_ok-set-in-Some-clause-elsewhere g c =
    let told = g.F.Folder.told in
    let old = told c.args.folder.now in
    let mid = told c.read_kept.new.folder in
    let k = c.args.number.0 in
    let entry = c.in-Some.entry in
    on_two old mid (told c.set.new.self) (IsFound k entry) (λ s t. SameBut entry.path s.now t.now) (λ s t. SameButRestored k s.now t.now) (same_but_restored k entry)
    (is_found k entry old mid (found_some old k c.in_ok-found.found entry c.in-Some.is c.in_ok-found.ensures.found) c.read_kept.ensures.still) c.set.ensures.elsewhere

pub returns-in_ok-set-in-Some-clause-crash : goal.returns-in_ok-set-in-Some-clause-crash
returns-in_ok-set-in-Some-clause-crash g c =
    let told = g.F.Folder.told in
    let old = told c.args.folder.now in
    let mid = told c.read_kept.new.folder in
    let k = c.args.number.0 in
    let entry = c.in-Some.entry in
    on_two old mid (told c.set.new.self) (IsFound k entry) (Touches entry.path) (TouchesRestored k) (touches_restored k entry)
    (is_found k entry old mid (found_some old k c.in_ok-found.found entry c.in-Some.is c.in_ok-found.ensures.found) c.read_kept.ensures.still) c.set.ensures.crash

pub returns-in_ok-set-in-Some-clause-time : goal.returns-in_ok-set-in-Some-clause-time
returns-in_ok-set-in-Some-clause-time g c =
    let told = g.F.Folder.told in
    let left = g.F.Folder.left_since in
    time_then (told c.args.folder.now) (told c.read_kept.new.folder) (told c.set.new.self) (left c.args.folder.now) (left c.read_kept.new.folder) (left c.set.new.self)
    (g.met.F.Folder.counts_now c.args.folder.now) c.read_kept.ensures.still c.read_kept.ensures.time c.set.ensures.time
