use Rattle.std.proofs.Common.{sym, ◌∙◌, subst}
use Rattle.std.proofs.lemmas.Bool.{false≢true}
use Rattle.folder_core.specs.Folder.{IsFormed}
use Rattle.folder_memory.specs.State.{state_of}
use Rattle.folder_memory.proofs.Images.{chosen_image, first_apart, image_chosen, made_of, same_touched, touched_some}
use Rattle.folder_memory.proofs.folder.MemoryFolder.image.Goals as goal

pub set_all-requires : goal.set_all-requires
set_all-requires c k d below =
    let h = c.args.self.now.history in
    let are = same_touched c.touched.result.now (state_of h.events.items).touched c.items-choice.result.now c.items-choice.result.now c.touched.ensures (λ i. c.items-choice.result.now) c.in_default.ensures in
    touched_some h.events.items h.no_root _ (are k d below)

-- a choice for a path that wasn't touched

pub returns-in-Some-clause-each : goal.returns-in-Some-clause-each
returns-in-Some-clause-each c m image chosen =
    first_apart c.touched.result.now (state_of c.args.self.now.history.events.items).touched c.items-choice.result.now c.args.choice.now c.in-Some.place c.touched.ensures c.items-choice.ensures c.in-Some.ensures chosen.are_touched

-- choices that make no well-formed map

pub returns-then-not-is_formed-clause-admits : goal.returns-then-not-is_formed-clause-admits
returns-then-not-is_formed-clause-admits c =
    let s = state_of c.args.self.now.history.events.items in
    let made = made_of (state_of c.set_all.new.self.events.items).now (state_of c.in_ok-history.history.events.items).now s.synced c.items-choice.result.now c.args.choice.now c.in_ok-set_all.ensures c.in_ok-history.ensures c.items-choice.ensures in (
      same_touched c.touched.result.now s.touched c.items-choice.result.now c.args.choice.now c.touched.ensures c.items-choice.ensures c.in_default.ensures,
      λ formed. false≢true (sym c.if-not-is_formed.true ∙ c.in_ok-is_formed.ensures.1 (subst IsFormed (sym made) formed)),
    )

pub returns-then-not-is_formed-clause-each : goal.returns-then-not-is_formed-clause-each
returns-then-not-is_formed-clause-each c m image chosen =
    let s = state_of c.args.self.now.history.events.items in
    let made = made_of (state_of c.set_all.new.self.events.items).now (state_of c.in_ok-history.history.events.items).now s.synced c.items-choice.result.now c.args.choice.now c.in_ok-set_all.ensures c.in_ok-history.ensures c.items-choice.ensures in
    false≢true (sym c.if-not-is_formed.true ∙ c.in_ok-is_formed.ensures.1 (subst IsFormed (sym (made ∙ image_chosen s m c.args.choice.now image chosen)) image.formed))

-- an image

pub returns-clause-image : goal.returns-clause-image
returns-clause-image c =
    let s = state_of c.args.self.now.history.events.items in
    let made = made_of (state_of c.set_all.new.self.events.items).now (state_of c.in_ok-history.history.events.items).now s.synced c.items-choice.result.now c.args.choice.now c.in_ok-set_all.ensures c.in_ok-history.ensures c.items-choice.ensures in
    let are = same_touched c.touched.result.now s.touched c.items-choice.result.now c.args.choice.now c.touched.ensures c.items-choice.ensures c.in_default.ensures in
    chosen_image s c.args.choice.now (state_of c.sync.new.self.events.items).now (c.sync.ensures.now ∙ made) are
    (subst IsFormed (sym c.sync.ensures.now) (c.in_ok-is_formed.ensures.0 c.if-not-is_formed.false))

pub returns-clause-admits : goal.returns-clause-admits
returns-clause-admits c =
    let s = state_of c.args.self.now.history.events.items in
    let made = made_of (state_of c.set_all.new.self.events.items).now (state_of c.in_ok-history.history.events.items).now s.synced c.items-choice.result.now c.args.choice.now c.in_ok-set_all.ensures c.in_ok-history.ensures c.items-choice.ensures in (
      same_touched c.touched.result.now s.touched c.items-choice.result.now c.args.choice.now c.touched.ensures c.items-choice.ensures c.in_default.ensures,
      subst IsFormed made (c.in_ok-is_formed.ensures.0 c.if-not-is_formed.false),
    )

pub returns-clause-each : goal.returns-clause-each
returns-clause-each c m image chosen =
    let s = state_of c.args.self.now.history.events.items in
    let made = made_of (state_of c.set_all.new.self.events.items).now (state_of c.in_ok-history.history.events.items).now s.synced c.items-choice.result.now c.args.choice.now c.in_ok-set_all.ensures c.in_ok-history.ensures c.items-choice.ensures in
    c.sync.ensures.now ∙ made ∙ image_chosen s m c.args.choice.now image chosen
