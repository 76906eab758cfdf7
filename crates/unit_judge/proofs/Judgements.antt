-- Answers, and what they say of all rules together.
use Rattle.std.proofs.Common.{◌≡◌, List, ◌++◌, get_or, refl, subst, sym}
use Rattle.std.specs.Prelude.{◌↔◌}
use Rattle.std.proofs.lemmas.Option.{slice_get_within, get_or_from_slice_get}
use Rattle.ldap_filter.specs.EnvPairs.{EnvPair}
use Rattle.unit_catalog.specs.Order.{AreInOrder}
use Rattle.unit_model.specs.Slice.{AreRooted, HasChain, IsAny}
use Rattle.unit_model.specs.Valid.{Collide, IsValid}
use Rattle.unit_model.specs.declared.judgement.Judgement.{Judgement}
use Rattle.unit_model.specs.declared.judgement.Judgement.TheVariants.{Good, Root, Applies, Requirement, Singleton, Unrooted}
use Rattle.unit_model.specs.declared.name.UnitName.{UnitName}
use Rattle.unit_model.specs.declared.unit.Unit.{Unit as Package}
use Rattle.unit_judge.specs.Judged.{DoesApply, IsServed, HaveRoots, AllApply, AreServed, StandApart, AreColliding, IsJudged}
use Rattle.unit_judge.proofs.Firsts.{first_not_all}
use Rattle.unit_judge.proofs.InOrder.{distinct_names}

pub all_valid : (units : List Package) (strict : List UnitName) (env : List EnvPair) → AreInOrder units → HaveRoots units strict → AllApply units env → AreServed units env → StandApart units → IsValid units strict env
all_valid units strict env order roots apply served apart = record {
  distinct = distinct_names units order;
  roots = roots;
  apply = apply;
  met = served;
  apart = apart;
}

not_apart : (units : List Package) (u v : Package) → AreColliding units u v → StandApart units → ⊥
not_apart units u v colliding apart =
    let free = apart colliding.first colliding.second u colliding.order (slice_get_within units colliding.second v colliding.second_is) in
    let one : get_or units colliding.first u ≡ u = get_or_from_slice_get units colliding.first u u colliding.first_is in
    let other : get_or units colliding.second u ≡ v = get_or_from_slice_get units colliding.second v u colliding.second_is in
    free (subst (λ (w : Package). Collide w (get_or units colliding.second u)) (sym one) (subst (λ (w : Package). Collide u w) (sym other) colliding.collide))

-- The answer is Good exactly where no rule is broken.
pub judged_good : (units : List Package) (strict optional : List UnitName) (env : List EnvPair) (j : Judgement) → IsJudged units strict optional env j
    → (j ≡ Good) ↔ (IsValid units strict env × AreRooted units strict optional env)
judged_good units strict optional env Good judged = (λ e. judged, λ good. refl)
judged_good units strict optional env (Root root) judged =
    (λ e. absurd (cc), λ good. absurd (first_not_all _ strict judged.0 root judged.1 good.0.roots))
judged_good units strict optional env (Applies name) judged =
    (λ e. absurd (cc), λ good. absurd (first_not_all (DoesApply env) units judged.3.0 judged.1 judged.3.1 good.0.apply))
judged_good units strict optional env (Requirement name row) judged =
    (λ e. absurd (cc), λ good. let member = judged.6.member in absurd (first_not_all (IsServed units env) units member.0 judged.2 member.1 good.0.met))
judged_good units strict optional env (Singleton first second) judged =
    (λ e. absurd (cc), λ good. absurd (not_apart units judged.3 judged.4 judged.7 good.0.apart))
judged_good units strict optional env (Unrooted name) judged =
    (λ e. absurd (cc), λ good. absurd (first_not_all (HasChain units IsAny (strict ++ optional) env) units judged.3.0 judged.1 judged.3.1 good.1))
