use Rattle.std.proofs.Common.{◌++◌, ap, ◌∙◌, take_all}
use Rattle.std.specs.List.{flat_map}
use Rattle.director_core.specs.StateText.{provided_line}
use Rattle.director_core.proofs.state_lines.push_provided.Goals as goal

pub returns : goal.returns
returns c =
    c.loop-row.invariant
    ∙ ap (λ rows. c.args.text.now.items ++ flat_map provided_line rows) (take_all c.loop-row.row-index c.args.provided.now c.loop-row-test.false)
