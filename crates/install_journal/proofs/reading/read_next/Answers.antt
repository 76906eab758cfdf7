use Rattle.std.proofs.Common.{◌+◌}
use Rattle.std.proofs.lemmas.Result.{err_from_is_err_and}
use Rattle.folder_core.specs.Folder.{Map}
use Rattle.folder_core.specs.Step.{OnTold}
use Rattle.install_journal.specs.Broken.{IsSound, IsUnsound}
use Rattle.install_journal.proofs.Damages.{looks_then, looks_back}
use Rattle.install_journal.proofs.Readings.{looks_still}
use Rattle.install_journal.proofs.ReadingSteps.{next_read, next_damaged, damage_back}
use Rattle.install_journal.proofs.reading.read_next.Goals as goal

pub returns-in_err-entry-clause-damaged : goal.returns-in_err-entry-clause-damaged
returns-in_err-entry-clause-damaged g c =
    let told = g.F.Folder.told in
    let left = g.F.Folder.left_since in
    let old = c.args.folder.now in
    let mid = c.counts.new.folder in
    let k = c.args.gathered.now.count + 1 in
    let looks = looks_still told left old mid c.counts.ensures.still c.counts.ensures.time in
    let fault = c.in_err-entry.field-0.0 in
    let p = err_from_is_err_and c.from_residual-in_err-entry.result c.from_residual-in_err-entry.ensures.1 in
    rw (p.1, p.2)
    (next_damaged (told old) c.in_ok-counts.field-0 fault c.args.gathered.now c.requires c.if-not-branch.false c.in_ok-counts.ensures.counts
    (damage_back fault (λ at. OnTold (told mid) (λ s. IsUnsound s.now k)) (λ at. OnTold (told old) (λ s. IsUnsound s.now k)) (λ at. looks_back told left old mid (λ (m : Map). IsUnsound m k) looks) c.in_err-entry.ensures.damaged)
    c.in_err-entry.ensures.named)

pub returns-in_err-entry-clause-looks : goal.returns-in_err-entry-clause-looks
returns-in_err-entry-clause-looks g c =
    let told = g.F.Folder.told in
    let left = g.F.Folder.left_since in
    looks_then told left c.args.folder.now c.counts.new.folder c.read_sound.new.folder
    (looks_still told left c.args.folder.now c.counts.new.folder c.counts.ensures.still c.counts.ensures.time) c.read_sound.ensures.looks

pub returns-in_err-note-clause-looks : goal.returns-in_err-note-clause-looks
returns-in_err-note-clause-looks g c =
    let told = g.F.Folder.told in
    let left = g.F.Folder.left_since in
    looks_then told left c.args.folder.now c.counts.new.folder c.read_sound.new.folder
    (looks_still told left c.args.folder.now c.counts.new.folder c.counts.ensures.still c.counts.ensures.time) c.read_sound.ensures.looks

pub returns-clause-looks : goal.returns-clause-looks
returns-clause-looks g c =
    let told = g.F.Folder.told in
    let left = g.F.Folder.left_since in
    looks_then told left c.args.folder.now c.counts.new.folder c.read_sound.new.folder
    (looks_still told left c.args.folder.now c.counts.new.folder c.counts.ensures.still c.counts.ensures.time) c.read_sound.ensures.looks

pub returns-clause-more : goal.returns-clause-more
returns-clause-more g c = λ yes.
    let told = g.F.Folder.told in
    let left = g.F.Folder.left_since in
    let old = c.args.folder.now in
    let mid = c.counts.new.folder in
    let k = c.args.gathered.now.count + 1 in
    let entry = c.in_ok-entry.entry in
    next_read (told old) c.in_ok-counts.field-0 entry c.args.gathered.now c.note.new.gathered c.requires c.if-not-branch.false c.in_ok-counts.ensures.counts
    (looks_back told left old mid (λ (m : Map). IsSound m k entry.path entry.before) (looks_still told left old mid c.counts.ensures.still c.counts.ensures.time) c.in_ok-entry.ensures.sound)
    c.in_ok-note.ensures.noted
