use Rattle.std.proofs.Common.{Some, ap, sym, ◌∙◌, take_all, arith, length-drop, ℕ}
use Rattle.ldap_filter.proofs.PieceLemmas.{behind-here}
use Rattle.ldap_filter.proofs.pieces.behind.Goals as goal

pub returns-then-starts_with : goal.returns-then-starts_with
returns-then-starts_with c =
    let here = behind-here c.args.piece.now c.loop-rest.rest.now (sym c.starts_with.ensures.value ∙ c.if-starts_with.true) in
    ap Some (take_all _ _ (omega (arith, length-drop {A = ℕ}))) ∙ sym (c.loop-rest.invariant ∙ here)
