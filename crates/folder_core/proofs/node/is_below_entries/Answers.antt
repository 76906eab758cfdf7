use Rattle.std.proofs.Common.{◌≡◌, ◌≤◌, length, get_or, codes, Decides, sym, ◌∙◌, ap, subst}
use Rattle.std.proofs.lemmas.Slice.Eq.{bytes_eq-Decides, slice_eq-Decides}
use Rattle.std.proofs.lemmas.Bool.Decides.{Decides-eqb}
use Rattle.folder_core.proofs.Entries.{below_entries}
use Rattle.folder_core.proofs.node.is_below_entries.Goals as goal

pub returns-then-eq : goal.returns-then-eq
returns-then-eq c =
    let first = c.as_str.ensures ∙ c.text.ensures.value in
    let second = c.as_str-then-eq.ensures ∙ c.text-then-eq.ensures.value in
    let items = c.items.ensures ∙ c.names.ensures.value in
    let is_first = sym first ∙ (bytes_eq-Decides c.as_str.result.now (codes ".p2")).0 (sym c.if-eq.ensures) in
    let decides = slice_eq-Decides Decides-eqb c.as_str-then-eq.result.now (codes "e") c.eq-then-eq.result c.eq-then-eq.ensures in
    below_entries c.args.path.now c.first-item.result c.second-item.result c.eq-then-eq.result
    (subst (λ l. 3 ≤ length l) items c.in-len3-up.len_at_least)
    (c.first-item.is ∙ ap (λ l. get_or l 0 c.first-item.result) items)
    (c.second-item.is ∙ ap (λ l. get_or l 1 c.second-item.result) items)
    is_first (subst (λ l. Decides c.eq-then-eq.result (l ≡ codes "e")) second decides)
