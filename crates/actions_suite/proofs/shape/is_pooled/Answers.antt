use Rattle.std.proofs.Common.{◌≡◌, ℕ, List, [], ◌∷◌, length, sym, ap, ◌∙◌, subst, arith}
use Rattle.std.specs.Prelude.{codes}
use Rattle.std.proofs.lemmas.Slice.Eq.{bytes_eq-Decides}
use Rattle.unit_model.specs.UnitId.{IsUnitId}
use Rattle.actions_suite.proofs.Lengths.{three}
use Rattle.actions_suite.proofs.shape.is_pooled.Goals as goal

pub returns-then-eq : goal.returns-then-eq
returns-then-eq c is =
    let long : length c.items.result.now ≡ 3 = omega arith in
    let parts = three c.items.result.now c.first-item.result c.classifier-item.result long c.first-item.is c.classifier-item.is in
    let first : c.first-item.result ≡ codes "pool" = sym c.text.ensures.value ∙ (sym c.as_str.ensures ∙ (bytes_eq-Decides c.as_str.result.now (codes "pool")).0 (sym c.if-eq.ensures)) in
    let is_id = subst IsUnitId (c.bytes.ensures.value ∙ c.text-then-eq.ensures.value) (c.is_unit_id.ensures.0 is) in (
      c.classifier-item.result,
      parts.0,
      is_id,
      sym (c.items.ensures ∙ c.names.ensures.value) ∙ (parts.1 ∙ ap (λ (name : List ℕ). name ∷ c.classifier-item.result ∷ parts.0 ∷ []) first),
    )
