use Rattle.std.proofs.Common.{◌++◌, ◌∷◌, [], ap, ◌∙◌}
use Rattle.std.specs.Prelude.{codes}
use Rattle.director_core.specs.StateText.{line, head_text}
use Rattle.director_core.proofs.Texts.{grown_by_three, number_line}
use Rattle.director_core.proofs.state_lines.push_head.Goals as goal

pub returns : goal.returns
unfolding head_text
returns c =
    let profile = c.as_slice.ensures.value ∙ c.in_ok-profile.ensures in
    let first = c.push_line.new.text.items in
    let second = c.push_line-2.new.text.items in
    grown_by_three _ _ _ _ _ _ _ c.in_ok-push_line.ensures
    (c.in_ok-push_line-2.ensures ∙ ap (λ p. first ++ line (codes "profile") (p ∷ [])) profile)
    (c.in_ok-push_line-3.ensures ∙ ap (λ l. second ++ l) number_line)
