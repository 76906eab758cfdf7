use Rattle.std.specs.Prelude.{map}
use Rattle.std.proofs.Common.{◌≡◌, refl, sym, ◌∙◌, rules}
use Rattle.std.specs.BTreeMap.{keys}
use Rattle.std.specs.Map.Iter.{deref}
use Rattle.std.proofs.lemmas.Map.Iter.{iter_end}
use Rattle.std.proofs.lemmas.Bool.{false≢true}
use Rattle.folder_memory.specs.State.{state_of}
use Rattle.folder_memory.proofs.Images.{AreWell-next, formed_of, well_at}
use Rattle.folder_memory.proofs.Standing.{stands_at}
use Rattle.folder_memory.proofs.history.History.is_formed.Goals as goal

pub loop-path-preserved : goal.loop-path-preserved
loop-path-preserved c =
    AreWell-next (state_of c.args.self.now.events.items).now c.loop-path.yielded c.in-Some.path c.loop-path.invariant
    (c.in_ok-is_well.ensures.well.0 c.if-not-is_well.false) c.is_well_at.ensures.path

pub returns : goal.returns
returns c =
    let h = c.args.self.now in
    let whole : map deref c.loop-path.yielded ≡ keys h.nodes = search (rules, iter_end) in
    let formed = formed_of (state_of h.events.items).now h.nodes c.loop-path.yielded (stands_at h.events.items h.nodes h.stands) whole c.loop-path.invariant in
    (λ always. formed, λ had. refl)

pub returns-then-not-is_well : goal.returns-then-not-is_well
returns-then-not-is_well c =
    let m = (state_of c.args.self.now.events.items).now in
    (λ never. absurd (false≢true never), λ formed. sym c.if-not-is_well.true ∙ c.in_ok-is_well.ensures.well.1 (well_at m c.in-Some.path.now formed))
