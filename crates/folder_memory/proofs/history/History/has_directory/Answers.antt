use Rattle.std.proofs.Common.{◌≢◌, ◌==◌, ℕ, List, [], length, refl, sym, ◌∙◌, ap}
use Rattle.std.proofs.lemmas.Bool.{false≢true}
use Rattle.folder_core.specs.declared.node.Node.TheVariants.{Dir}
use Rattle.folder_memory.specs.Nodes.{map_of}
use Rattle.folder_memory.proofs.Standing.{must_show, nothing_shows, shown, stands_at}
use Rattle.folder_memory.proofs.States.{none_there}
use Rattle.folder_memory.proofs.history.History.has_directory.Goals as goal

pub returns-then-is_empty : goal.returns-then-is_empty
returns-then-is_empty c =
    let h = c.args.self.now in
    let none = none_there c.args.names.now (sym c.is_empty.ensures ∙ c.if-is_empty.true) in
    (λ always. stands_at h.events.items h.nodes h.stands c.args.names.now ∙ ap (λ p. map_of Dir h.nodes p) none, λ dir. refl)

pub returns-in-Some : goal.returns-in-Some
returns-in-Some c =
    let h = c.args.self.now in
    let some : c.args.names.now ≢ [] = λ none. false≢true (sym c.if-is_empty.false ∙ c.is_empty.ensures ∙ ap (λ (l : List (List ℕ)). length l == 0) none) in (
      λ yes. shown h.events.items h.nodes h.stands c.requires.formed c.args.path.now c.args.names.now c.requires.names some c.in-Some.place.now c.in-Some.node.now c.in-Some.ensures (c.shows_directory.ensures.0 yes),
      λ dir. c.shows_directory.ensures.1 (must_show h.events.items h.nodes h.stands c.requires.formed c.args.path.now c.args.names.now c.requires.names some c.in-Some.place.now c.in-Some.node.now c.in-Some.ensures dir),
    )

pub returns-in-None : goal.returns-in-None
returns-in-None c =
    let h = c.args.self.now in
    let some : c.args.names.now ≢ [] = λ none. false≢true (sym c.if-is_empty.false ∙ c.is_empty.ensures ∙ ap (λ (l : List (List ℕ)). length l == 0) none) in
    (λ never. absurd (false≢true never), λ dir. absurd (nothing_shows h.events.items h.nodes h.stands c.requires.formed c.args.path.now c.args.names.now c.requires.names some c.in-None.ensures dir))
