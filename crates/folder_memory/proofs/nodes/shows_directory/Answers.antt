use Rattle.std.proofs.Common.{◌≡◌, ◌==◌, List, ℕ, [], length, not, Bool, Some, None, sym, ◌∙◌, ap}
use Rattle.std.proofs.lemmas.Bool.{false≢true}
use Rattle.std.proofs.lemmas.List.{append_cancel_left}
use Rattle.std.proofs.lemmas.Slice.Eq.{strip_prefix_is, bytes_eq-Decides}
use Rattle.folder_memory.proofs.States.{none_there}
use Rattle.folder_memory.proofs.nodes.shows_directory.Goals as goal

pub returns-then-not-is_empty : goal.returns-then-not-is_empty
returns-then-not-is_empty c =
    let is = sym (c.items.ensures ∙ c.names.ensures.value) ∙ strip_prefix_is bytes_eq-Decides c.items.result.now c.args.names.now (Some c.in-Some.rest) c.in-Some.ensures.cases in (
      λ always. (c.in-Some.rest.now, is, λ none. absurd (false≢true (sym c.if-not-is_empty.true ∙ c.is_empty.ensures ∙ ap (λ (l : List (List ℕ)). length l == 0) none))),
      λ shows. ap (λ (b : Bool). not b) c.if-not-is_empty.true,
    )

pub returns-else-not-is_empty : goal.returns-else-not-is_empty
returns-else-not-is_empty c =
    let is = sym (c.items.ensures ∙ c.names.ensures.value) ∙ strip_prefix_is bytes_eq-Decides c.items.result.now c.args.names.now (Some c.in-Some.rest) c.in-Some.ensures.cases in
    let none : c.in-Some.rest.now ≡ [] = none_there c.in-Some.rest.now (sym c.is_empty.ensures ∙ c.if-not-is_empty.false) in (
      λ yes. (c.in-Some.rest.now, is, λ _. let both = c.is_directory.ensures.0 yes in cc),
      λ shows. c.is_directory.ensures.1 (ap Some (shows.2 (append_cancel_left c.args.names.now shows.0 c.in-Some.rest.now (sym shows.1 ∙ is) ∙ none))),
    )

pub returns-in-None : goal.returns-in-None
returns-in-None c = (
  λ never. absurd (false≢true never),
  λ shows. absurd (strip_prefix_is bytes_eq-Decides c.items.result.now c.args.names.now None c.in-None.ensures.cases shows.0 (c.items.ensures ∙ c.names.ensures.value ∙ shows.1)),
)
