use Rattle.std.proofs.Common.{sym, ◌∙◌}
use Rattle.std.proofs.lemmas.Bool.{false≢true}
use Rattle.std.specs.Map.Iter.{deref_pair}
use Rattle.folder_memory.proofs.Found.{below_found, none_found}
use Rattle.folder_memory.proofs.Parts.{first_tells, nothing_behind}
use Rattle.folder_memory.proofs.places.has_below.Goals as goal

pub returns-in-Some : goal.returns-in-Some
returns-in-Some g c =
    first_tells {V = g.row.V.Denot} c.args.places.now c.args.path.now c.range.result c.range.ensures.ordered (c.range.ensures.between tt) (c.range.ensures.in_range tt).0
    (deref_pair (c.in-Some.place, c.in-Some.field-0-1)) c.next.new.self c.in-Some.ensures.steps c.is_some.result
    (λ some. below_found c.args.path.now c.in-Some.place.now c.name_below.result c.name_below.ensures (sym c.is_some.ensures ∙ some))
    (λ none. none_found c.args.path.now c.in-Some.place.now c.name_below.result c.name_below.ensures (sym c.is_some.ensures ∙ none))

pub returns-in-None : goal.returns-in-None
returns-in-None g c = (
  λ never. absurd (false≢true never),
  λ has. absurd (nothing_behind {V = g.row.V.Denot} c.args.places.now c.args.path.now c.range.result c.range.ensures.ordered (c.range.ensures.between tt) (c.range.ensures.in_range tt).0 c.in-None.ensures.steps.0 has),
)
