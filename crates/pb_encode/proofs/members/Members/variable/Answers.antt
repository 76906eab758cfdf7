use Rattle.std.proofs.Common.{ap, ◌∙◌}
use Rattle.std.specs.List.{slice_index}
use Rattle.pb_encode.proofs.PlaceLaws.{some_at}
use Rattle.pb_encode.proofs.members.Members.variable.Goals as goal

pub returns-else-variable-eq0 : goal.returns-else-variable-eq0
returns-else-variable-eq0 c =
    let self = c.args.self.now in
    some_at self.numbers.now self.variables.items c.args.number c.place_at-variable.result self.placed
    (c.place_at-variable.ensures ∙ ap (λ places. slice_index places c.args.number) c.deref.ensures.value) c.if-variable-eq0.false
