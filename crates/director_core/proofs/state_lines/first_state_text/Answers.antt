use Rattle.std.proofs.Common.{◌∙◌}
use Rattle.director_core.proofs.Texts.{grown_by_four, grown_from, first_lines}
use Rattle.director_core.proofs.state_lines.first_state_text.Goals as goal

pub returns : goal.returns
returns c =
    c.from_vec.ensures
    ∙ (grown_from _ _ _ c.new-text.ensures.items
    (grown_by_four _ _ _ _ _ _ _ _ _ c.in_ok-push_head.ensures c.in_ok-push_named.ensures c.in_ok-push_unit.ensures c.in_ok-push_line.ensures)
    ∙ first_lines c.args.profile.now c.args.unit.now)
