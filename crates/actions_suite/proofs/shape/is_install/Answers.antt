use Rattle.std.proofs.Common.{◌≡◌, ℕ, List, [], ◌∷◌, length, sym, ap, ◌∙◌, subst, arith}
use Rattle.std.specs.Prelude.{codes}
use Rattle.std.proofs.lemmas.Slice.Eq.{bytes_eq-Decides}
use Rattle.unit_model.specs.Profile.{IsProfile}
use Rattle.actions_suite.proofs.Lengths.{two}
use Rattle.actions_suite.proofs.shape.is_install.Goals as goal

pub returns-then-eq : goal.returns-then-eq
returns-then-eq c is =
    let long : length c.items.result.now ≡ 2 = omega arith in
    let parts = two c.items.result.now c.first-item.result c.profile-item.result long c.first-item.is c.profile-item.is in
    let first : c.first-item.result ≡ codes "installs" = sym c.text.ensures.value ∙ (sym c.as_str.ensures ∙ (bytes_eq-Decides c.as_str.result.now (codes "installs")).0 (sym c.if-eq.ensures)) in
    let is_name = subst IsProfile (c.bytes.ensures.value ∙ c.text-then-eq.ensures.value) (c.is_profile.ensures.0 is) in
    (c.profile-item.result, is_name, sym (c.items.ensures ∙ c.names.ensures.value) ∙ (parts ∙ ap (λ (name : List ℕ). name ∷ c.profile-item.result ∷ []) first))
