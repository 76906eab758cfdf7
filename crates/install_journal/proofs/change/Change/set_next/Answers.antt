use Rattle.std.proofs.Common.{◌≡◌, suc, List, ◌∷◌, Option, drop, subst, sym, ap, ◌∙◌}
use Rattle.std.proofs.Math.Seq.{drop-cons}
use Rattle.std.proofs.lemmas.List.{get_or_default}
use Rattle.folder_core.specs.Folder.{SameBut, set_at}
use Rattle.folder_core.specs.Step.{OnTold, Step}
use Rattle.folder_core.specs.declared.node.Node.{Node}
use Rattle.folder_core.specs.declared.node.Touch.{Touch}
use Rattle.install_journal.specs.Ahead.{IsAhead}
use Rattle.install_journal.specs.Open.{IsOpen}
use Rattle.install_journal.specs.Touching.{no_touch, touch_at}
use Rattle.install_journal.specs.declared.change.Change.{Change}
use Rattle.install_journal.proofs.Aheads.{cut_open, failed_cut, set_ahead, next_restores}
use Rattle.install_journal.proofs.change.Change.set_next.Goals as goal

pub returns-in-Ok-clause-ahead : goal.returns-in-Ok-clause-ahead
returns-in-Ok-clause-ahead g c =
    let touches = c.args.touches.now in
    let place = c.args.place in
    let item = c.index-touches-place.result in
    set_ahead g.F.Folder.told g.F.Folder.left_since c.args.self.now item (drop (suc place) touches) c.args.folder.now
    (subst (λ (l : List Touch). OnTold (g.F.Folder.told c.args.folder.now) (IsAhead c.args.self.now l)) (drop-cons touches place item c.requires.here ∙ ap (λ (x : Touch). x ∷ drop (suc place) touches) (sym c.index-touches-place.is)) c.requires.ahead)
    (g.met.F.Folder.image_now c.args.folder.now) (g.met.F.Folder.only_now c.args.folder.now) c.set.new.self c.set.ensures.crash c.set.ensures.elsewhere (subst (λ (n : Option Node). Step (g.F.Folder.told c.args.folder.now) (g.F.Folder.told c.set.new.self) (λ s t. t.now ≡ set_at s.now item.path n)) c.as_ref.ensures.value c.in-Ok.ensures.ok)

pub returns-in-Ok-clause-elsewhere : goal.returns-in-Ok-clause-elsewhere
returns-in-Ok-clause-elsewhere g c =
    let touches = c.args.touches.now in
    let place = c.args.place in
    let item = c.index-touches-place.result in
    subst (λ (x : Touch). Step (g.F.Folder.told c.args.folder.now) (g.F.Folder.told c.set.new.self) (λ s t. SameBut x.path s.now t.now)) (c.index-touches-place.is ∙ get_or_default touches place item no_touch c.requires.here) c.set.ensures.elsewhere

pub returns-in-Ok-clause-restores : goal.returns-in-Ok-clause-restores
returns-in-Ok-clause-restores g c =
    let touches = c.args.touches.now in
    let place = c.args.place in
    let item = c.index-touches-place.result in
    next_restores g.F.Folder.told g.F.Folder.left_since c.args.self.now item (drop (suc place) touches) c.args.folder.now
    (subst (λ (l : List Touch). OnTold (g.F.Folder.told c.args.folder.now) (IsAhead c.args.self.now l)) (drop-cons touches place item c.requires.here ∙ ap (λ (x : Touch). x ∷ drop (suc place) touches) (sym c.index-touches-place.is)) c.requires.ahead)
    (g.met.F.Folder.image_now c.args.folder.now) (g.met.F.Folder.only_now c.args.folder.now) c.set.new.self c.set.ensures.crash c.set.ensures.elsewhere c.set.ensures.time

pub returns-in-Err-NoMemory-clause-open : goal.returns-in-Err-NoMemory-clause-open
returns-in-Err-NoMemory-clause-open g c =
    let touches = c.args.touches.now in
    let place = c.args.place in
    let item = c.index-touches-place.result in
    subst (λ (x : Change). OnTold (g.F.Folder.told c.set.new.self) (IsOpen x)) (sym c.refuse.ensures.change) (cut_open g.F.Folder.told g.F.Folder.left_since c.args.self.now item (drop (suc place) touches) c.args.folder.now
    (subst (λ (l : List Touch). OnTold (g.F.Folder.told c.args.folder.now) (IsAhead c.args.self.now l)) (drop-cons touches place item c.requires.here ∙ ap (λ (x : Touch). x ∷ drop (suc place) touches) (sym c.index-touches-place.is)) c.requires.ahead)
    (g.met.F.Folder.image_now c.args.folder.now) (g.met.F.Folder.only_now c.args.folder.now) c.set.new.self c.set.ensures.crash c.set.ensures.elsewhere)

pub returns-in-Err-NoMemory-clause-restores : goal.returns-in-Err-NoMemory-clause-restores
returns-in-Err-NoMemory-clause-restores g c =
    let touches = c.args.touches.now in
    let place = c.args.place in
    let item = c.index-touches-place.result in
    next_restores g.F.Folder.told g.F.Folder.left_since c.args.self.now item (drop (suc place) touches) c.args.folder.now
    (subst (λ (l : List Touch). OnTold (g.F.Folder.told c.args.folder.now) (IsAhead c.args.self.now l)) (drop-cons touches place item c.requires.here ∙ ap (λ (x : Touch). x ∷ drop (suc place) touches) (sym c.index-touches-place.is)) c.requires.ahead)
    (g.met.F.Folder.image_now c.args.folder.now) (g.met.F.Folder.only_now c.args.folder.now) c.set.new.self c.set.ensures.crash c.set.ensures.elsewhere c.set.ensures.time

pub returns-in-Err-Failed-clause-open : goal.returns-in-Err-Failed-clause-open
returns-in-Err-Failed-clause-open g c =
    let touches = c.args.touches.now in
    let place = c.args.place in
    let item = c.index-touches-place.result in
    subst (λ (x : Change). OnTold (g.F.Folder.told c.set.new.self) (IsOpen x)) (sym c.refuse-in-Err-Failed.ensures.change) (cut_open g.F.Folder.told g.F.Folder.left_since c.args.self.now item (drop (suc place) touches) c.args.folder.now
    (subst (λ (l : List Touch). OnTold (g.F.Folder.told c.args.folder.now) (IsAhead c.args.self.now l)) (drop-cons touches place item c.requires.here ∙ ap (λ (x : Touch). x ∷ drop (suc place) touches) (sym c.index-touches-place.is)) c.requires.ahead)
    (g.met.F.Folder.image_now c.args.folder.now) (g.met.F.Folder.only_now c.args.folder.now) c.set.new.self c.set.ensures.crash c.set.ensures.elsewhere)

pub returns-in-Err-Failed-clause-cut : goal.returns-in-Err-Failed-clause-cut
returns-in-Err-Failed-clause-cut g c =
    let touches = c.args.touches.now in
    let place = c.args.place in
    let item = c.index-touches-place.result in
    failed_cut c.refuse-in-Err-Failed.result (touch_at touches place).path (g.F.Folder.told c.args.folder.now) (g.F.Folder.told c.set.new.self) c.refuse-in-Err-Failed.ensures.fault
    (subst (λ (x : Touch). Step (g.F.Folder.told c.args.folder.now) (g.F.Folder.told c.set.new.self) (λ s t. SameBut x.path s.now t.now)) (c.index-touches-place.is ∙ get_or_default touches place item no_touch c.requires.here) c.set.ensures.elsewhere)

pub returns-in-Err-Failed-clause-elsewhere : goal.returns-in-Err-Failed-clause-elsewhere
returns-in-Err-Failed-clause-elsewhere g c =
    let touches = c.args.touches.now in
    let place = c.args.place in
    let item = c.index-touches-place.result in
    subst (λ (x : Touch). Step (g.F.Folder.told c.args.folder.now) (g.F.Folder.told c.set.new.self) (λ s t. SameBut x.path s.now t.now)) (c.index-touches-place.is ∙ get_or_default touches place item no_touch c.requires.here) c.set.ensures.elsewhere

pub returns-in-Err-Failed-clause-restores : goal.returns-in-Err-Failed-clause-restores
returns-in-Err-Failed-clause-restores g c =
    let touches = c.args.touches.now in
    let place = c.args.place in
    let item = c.index-touches-place.result in
    next_restores g.F.Folder.told g.F.Folder.left_since c.args.self.now item (drop (suc place) touches) c.args.folder.now
    (subst (λ (l : List Touch). OnTold (g.F.Folder.told c.args.folder.now) (IsAhead c.args.self.now l)) (drop-cons touches place item c.requires.here ∙ ap (λ (x : Touch). x ∷ drop (suc place) touches) (sym c.index-touches-place.is)) c.requires.ahead)
    (g.met.F.Folder.image_now c.args.folder.now) (g.met.F.Folder.only_now c.args.folder.now) c.set.new.self c.set.ensures.crash c.set.ensures.elsewhere c.set.ensures.time
