use Rattle.std.proofs.Common.{◌≤◌, not, length, get_or, codes, ◌∙◌, ap, subst, eqb}
use Rattle.std.specs.Cmp.Lexicographic.{pointwise}
use Rattle.backup_store.proofs.PuttingLemmas.{outside_tested}
use Rattle.backup_store.proofs.looking.is_outside.Goals as goal

pub returns-in-len1-up : goal.returns-in-len1-up
returns-in-len1-up c =
    let items = c.items.ensures ∙ c.names.ensures.value in
    let first = c.as_str.ensures ∙ c.text.ensures.value in
    outside_tested c.args.path.now c.first-item.result c.ne.result
    (subst (λ l. 1 ≤ length l) items c.in-len1-up.len_at_least)
    (c.first-item.is ∙ ap (λ l. get_or l 0 c.first-item.result) items)
    (c.ne.ensures ∙ ap (λ l. not (pointwise eqb l (codes ".p2"))) first)
