-- What one part more makes of what was read.
use Rattle.std.proofs.Common.{◌≡◌, ◌<◌, ◌≤◌, nat_lt, Bool, true, false, ◌&&◌, not, [], ◌∷◌, ◌++◌, length, map, All, Some, refl, sym, ap, ◌∙◌, subst, arith, length-append}
use Rattle.std.specs.List.Sorted.{IsStrictlyIncreasing}
use Rattle.std.proofs.lemmas.Bool.Decides.{nat_tests}
use Rattle.std.proofs.lemmas.List.{map-append}
use Rattle.std.proofs.lemmas.List.Elements.{All-push}
use Rattle.unit_lines.specs.declared.part.Part.{Part}
use Rattle.unit_lines.specs.declared.part.Part.TheVariants as part
use Rattle.unit_text.specs.declared.draft.Draft.{Draft}
use Rattle.unit_text.specs.UnitText.{singleton_parts, filter_parts, touchpoint_parts, places}
use Rattle.unit_text.specs.Draft.{has, bare, ends_artifacts, ends_required, ends_provided, ends_properties, ends_touchpoint, rises, kept, next}
use Rattle.unit_text.proofs.Forms.{NotEnd}
use Rattle.unit_text.proofs.Walks.{IsWhole}
use Rattle.unit_text.proofs.Drafts.{update_parts, tail_parts, more_parts, draft_parts, run, run_append, IsDraft, Puts, under, only, one_more, both, no_filter, no_update, no_touchpoint, no_singleton, not_true, ended_artifacts, ended_required, ended_provided, ended_properties, ended_touchpoint, rising_more}

kept_elim : (P : Draft → Type 0) (g : Bool) (e d' : Draft) → kept g e ≡ Some d' → (g ≡ true → P e) → P d'
kept_elim P true e d' same p = let equal : e ≡ d' = cc in subst P equal (p refl)
kept_elim P false e d' same p = absurd (cc)

clash : {A : Type 0} (b : Bool) → b ≡ true → b ≡ false → A
clash b holds fails = absurd (cc)

module _ (d : Draft) (is : IsDraft d) (p : Part) (d' : Draft) (whole : IsWhole p) (goes_on : NotEnd p) where
  made : next d p ≡ Some d' → d'.name ≡ d.name → more_parts d' ≡ more_parts d ++ p ∷ [] → length d'.required ≤ 1024
      → IsStrictlyIncreasing (places d'.phases) → (has d'.update ≡ false → tail_parts d' ≡ []) → Puts d p d'
  made put name more few rising ordered =
      let parts : draft_parts d' ≡ draft_parts d ++ p ∷ [] = λ i. part.Name (name i) ∷ more i in
      record {
        is = record {
          whole = subst (All IsWhole) (sym parts) (All-push IsWhole (draft_parts d) p is.whole whole);
          going = subst (All NotEnd) (sym parts) (All-push NotEnd (draft_parts d) p is.going goes_on);
          few = few;
          rising = rising;
          ordered = ordered;
          ran = (λ i. run (Some (bare (name i))) (more i)) ∙ (run_append (Some (bare d.name)) (more_parts d) (p ∷ []) ∙ (ap (λ o. run o (p ∷ [])) is.ran ∙ put));
        };
        parts = parts;
      }

pub puts : (d : Draft) → IsDraft d → (p : Part) (d' : Draft) → IsWhole p → NotEnd p → next d p ≡ Some d' → Puts d p d'
puts d is (part.Name n) d' whole goes_on put = absurd (cc)
puts d is part.Singleton d' whole goes_on put =
    kept_elim (Puts d part.Singleton) (not d.singleton && (not (has d.filter) && not (has d.update))) (record d { singleton = true }) d' put
    (λ g.
    let s = both (not d.singleton) (not (has d.filter) && not (has d.update)) g in
    let t = both (not (has d.filter)) (not (has d.update)) s.1 in
    let nothing = is.ordered (not_true (has d.update) t.1) in
    let filter = no_filter d.filter t.0 in
    let update = no_update d.update t.1 in
    let behind : filter_parts d.filter ++ (update_parts d.update ++ tail_parts d) ≡ [] = λ i. filter i ++ (update i ++ nothing i) in
    made d is part.Singleton (record d { singleton = true }) whole goes_on (ap (λ b. kept b (record d { singleton = true })) g) refl
    (only (singleton_parts d.singleton) (filter_parts d.filter ++ (update_parts d.update ++ tail_parts d)) part.Singleton (no_singleton d.singleton s.0) behind)
    is.few is.rising is.ordered)
puts d is (part.Filter f) d' whole goes_on put =
    kept_elim (Puts d (part.Filter f)) (not (has d.filter) && not (has d.update)) (record d { filter = Some f }) d' put
    (λ g.
    let t = both (not (has d.filter)) (not (has d.update)) g in
    let nothing = is.ordered (not_true (has d.update) t.1) in
    let update = no_update d.update t.1 in
    let behind : update_parts d.update ++ tail_parts d ≡ [] = λ i. update i ++ nothing i in
    made d is (part.Filter f) (record d { filter = Some f }) whole goes_on (ap (λ b. kept b (record d { filter = Some f })) g) refl
    (under (singleton_parts d.singleton) _ _ (part.Filter f) (only (filter_parts d.filter) (update_parts d.update ++ tail_parts d) (part.Filter f) (no_filter d.filter t.0) behind))
    is.few is.rising is.ordered)
puts d is (part.Update u) d' whole goes_on put =
    kept_elim (Puts d (part.Update u)) (not (has d.update)) (record d { update = Some u }) d' put
    (λ g.
    let nothing = is.ordered (not_true (has d.update) g) in
    made d is (part.Update u) (record d { update = Some u }) whole goes_on (ap (λ b. kept b (record d { update = Some u })) g) refl
    (under (singleton_parts d.singleton) _ _ (part.Update u)
    (under (filter_parts d.filter) _ _ (part.Update u) (only (update_parts d.update) (tail_parts d) (part.Update u) (no_update d.update g) nothing)))
    is.few is.rising (λ f. absurd (cc)))
puts d is (part.Touchpoint x) d' whole goes_on put =
    kept_elim (Puts d (part.Touchpoint x)) (has d.update && (not (has d.touchpoint) && ends_touchpoint d)) (record d { touchpoint = Some x }) d' put
    (λ g.
    let s = both (has d.update) (not (has d.touchpoint) && ends_touchpoint d) g in
    let t = both (not (has d.touchpoint)) (ends_touchpoint d) s.1 in
    made d is (part.Touchpoint x) (record d { touchpoint = Some x }) whole goes_on (ap (λ b. kept b (record d { touchpoint = Some x })) g) refl
    (under (singleton_parts d.singleton) _ _ (part.Touchpoint x)
    (under (filter_parts d.filter) _ _ (part.Touchpoint x)
    (under (update_parts d.update) _ _ (part.Touchpoint x) (only (touchpoint_parts d.touchpoint) _ (part.Touchpoint x) (no_touchpoint d.touchpoint t.0) (ended_touchpoint d t.1)))))
    is.few is.rising (λ f. clash (has d.update) s.0 f))
puts d is (part.Property x) d' whole goes_on put =
    kept_elim (Puts d (part.Property x)) (has d.update && ends_properties d) (record d { properties = d.properties ++ x ∷ [] }) d' put
    (λ g.
    let s = both (has d.update) (ends_properties d) g in
    made d is (part.Property x) (record d { properties = d.properties ++ x ∷ [] }) whole goes_on (ap (λ b. kept b (record d { properties = d.properties ++ x ∷ [] })) g) refl
    (under (singleton_parts d.singleton) _ _ (part.Property x)
    (under (filter_parts d.filter) _ _ (part.Property x)
    (under (update_parts d.update) _ _ (part.Property x)
    (under (touchpoint_parts d.touchpoint) _ _ (part.Property x) (one_more part.Property d.properties x _ (ended_properties d s.1))))))
    is.few is.rising (λ f. clash (has d.update) s.0 f))
puts d is (part.Provided x) d' whole goes_on put =
    kept_elim (Puts d (part.Provided x)) (has d.update && ends_provided d) (record d { provided = d.provided ++ x ∷ [] }) d' put
    (λ g.
    let s = both (has d.update) (ends_provided d) g in
    made d is (part.Provided x) (record d { provided = d.provided ++ x ∷ [] }) whole goes_on (ap (λ b. kept b (record d { provided = d.provided ++ x ∷ [] })) g) refl
    (under (singleton_parts d.singleton) _ _ (part.Provided x)
    (under (filter_parts d.filter) _ _ (part.Provided x)
    (under (update_parts d.update) _ _ (part.Provided x)
    (under (touchpoint_parts d.touchpoint) _ _ (part.Provided x)
    (under (map part.Property d.properties) _ _ (part.Provided x) (one_more part.Provided d.provided x _ (ended_provided d s.1)))))))
    is.few is.rising (λ f. clash (has d.update) s.0 f))
puts d is (part.Required x) d' whole goes_on put =
    kept_elim (Puts d (part.Required x)) (has d.update && (ends_required d && nat_lt (length d.required) 1024)) (record d { required = d.required ++ x ∷ [] }) d' put
    (λ g.
    let s = both (has d.update) (ends_required d && nat_lt (length d.required) 1024) g in
    let t = both (ends_required d) (nat_lt (length d.required) 1024) s.1 in
    let test : nat_lt (length d.required) 1024 ≡ true = t.1 in
    let less : length d.required < 1024 = grind (arith, nat_tests) in
    let few : length (d.required ++ x ∷ []) ≤ 1024 = omega (arith, length-append d.required (x ∷ [])) in
    made d is (part.Required x) (record d { required = d.required ++ x ∷ [] }) whole goes_on (ap (λ b. kept b (record d { required = d.required ++ x ∷ [] })) g) refl
    (under (singleton_parts d.singleton) _ _ (part.Required x)
    (under (filter_parts d.filter) _ _ (part.Required x)
    (under (update_parts d.update) _ _ (part.Required x)
    (under (touchpoint_parts d.touchpoint) _ _ (part.Required x)
    (under (map part.Property d.properties) _ _ (part.Required x)
    (under (map part.Provided d.provided) _ _ (part.Required x) (one_more part.Required d.required x _ (ended_required d t.0))))))))
    few is.rising (λ f. clash (has d.update) s.0 f))
puts d is (part.Artifact x) d' whole goes_on put =
    kept_elim (Puts d (part.Artifact x)) (has d.update && ends_artifacts d) (record d { artifacts = d.artifacts ++ x ∷ [] }) d' put
    (λ g.
    let s = both (has d.update) (ends_artifacts d) g in
    made d is (part.Artifact x) (record d { artifacts = d.artifacts ++ x ∷ [] }) whole goes_on (ap (λ b. kept b (record d { artifacts = d.artifacts ++ x ∷ [] })) g) refl
    (under (singleton_parts d.singleton) _ _ (part.Artifact x)
    (under (filter_parts d.filter) _ _ (part.Artifact x)
    (under (update_parts d.update) _ _ (part.Artifact x)
    (under (touchpoint_parts d.touchpoint) _ _ (part.Artifact x)
    (under (map part.Property d.properties) _ _ (part.Artifact x)
    (under (map part.Provided d.provided) _ _ (part.Artifact x)
    (under (map part.Required d.required) _ _ (part.Artifact x) (one_more part.Artifact d.artifacts x _ (ended_artifacts d s.1)))))))))
    is.few is.rising (λ f. clash (has d.update) s.0 f))
puts d is (part.Phase x) d' whole goes_on put =
    kept_elim (Puts d (part.Phase x)) (has d.update && rises d.phases x) (record d { phases = d.phases ++ x ∷ [] }) d' put
    (λ g.
    let s = both (has d.update) (rises d.phases x) g in
    made d is (part.Phase x) (record d { phases = d.phases ++ x ∷ [] }) whole goes_on (ap (λ b. kept b (record d { phases = d.phases ++ x ∷ [] })) g) refl
    (under (singleton_parts d.singleton) _ _ (part.Phase x)
    (under (filter_parts d.filter) _ _ (part.Phase x)
    (under (update_parts d.update) _ _ (part.Phase x)
    (under (touchpoint_parts d.touchpoint) _ _ (part.Phase x)
    (under (map part.Property d.properties) _ _ (part.Phase x)
    (under (map part.Provided d.provided) _ _ (part.Phase x)
    (under (map part.Required d.required) _ _ (part.Phase x)
    (under (map part.Artifact d.artifacts) _ _ (part.Phase x) (map-append part.Phase d.phases (x ∷ []))))))))))
    is.few (rising_more d.phases x is.rising s.1) (λ f. clash (has d.update) s.0 f))
puts d is part.End d' whole goes_on put = absurd (goes_on refl)
