-- The parts of a unit in form are in their forms, and only the last of them is the end.
use Rattle.std.proofs.Common.{◌≢◌, Bool, true, false, List, [], ◌∷◌, All, Option, Some, None, IfSome}
use Rattle.std.proofs.lemmas.List.Elements.{All-nil, All-cons, All-append, All-map}
use Rattle.ldap_filter.specs.declared.filter.Filter.{Filter}
use Rattle.unit_model.specs.declared.touchpoint.Touchpoint.{Touchpoint}
use Rattle.unit_model.specs.declared.unit.Unit.{Unit as Package}
use Rattle.unit_lines.specs.Parts.{IsPart}
use Rattle.unit_lines.specs.declared.part.Part.{Part}
use Rattle.unit_lines.specs.declared.part.Part.TheVariants as part
use Rattle.unit_text.specs.UnitText.{IsUnit, singleton_parts, filter_parts, touchpoint_parts, early_parts, late_parts, body_parts}

-- What each part of a unit has, where those of each kind have it.
pub record Each (P : Part → Type 0) (u : Package) : Type 0 where
  pub name : P (part.Name u.name)
  pub singleton : P part.Singleton
  pub filter : IfSome u.filter (λ f. P (part.Filter f))
  pub update : P (part.Update u.update)
  pub touchpoint : IfSome u.touchpoint (λ t. P (part.Touchpoint t))
  pub properties : All (λ x. P (part.Property x)) u.properties
  pub provided : All (λ x. P (part.Provided x)) u.provided
  pub required : All (λ x. P (part.Required x)) u.required
  pub artifacts : All (λ x. P (part.Artifact x)) u.artifacts
  pub phases : All (λ x. P (part.Phase x)) u.phases

module _ (P : Part → Type 0) where
  singles : (b : Bool) → P part.Singleton → All P (singleton_parts b)
  singles true p = All-cons P part.Singleton [] p (All-nil P)
  singles false p = All-nil P

  filters : (f : Option Filter) → IfSome f (λ g. P (part.Filter g)) → All P (filter_parts f)
  filters None p = All-nil P
  filters (Some f) p = All-cons P (part.Filter f) [] p (All-nil P)

  touchpoints : (t : Option Touchpoint) → IfSome t (λ s. P (part.Touchpoint s)) → All P (touchpoint_parts t)
  touchpoints None p = All-nil P
  touchpoints (Some t) p = All-cons P (part.Touchpoint t) [] p (All-nil P)

  pub each_late : (u : Package) → Each P u → All P (late_parts u)
  each_late u e =
      All-append P _ _ (touchpoints u.touchpoint e.touchpoint)
      (All-append P _ _ (All-map P part.Property u.properties e.properties)
      (All-append P _ _ (All-map P part.Provided u.provided e.provided)
      (All-append P _ _ (All-map P part.Required u.required e.required)
      (All-append P _ _ (All-map P part.Artifact u.artifacts e.artifacts) (All-map P part.Phase u.phases e.phases)))))

  pub each_body : (u : Package) → Each P u → All P (body_parts u)
  each_body u e =
      All-append P (early_parts u) (part.Update u.update ∷ late_parts u)
      (All-cons P (part.Name u.name) _ e.name (All-append P (singleton_parts u.singleton) (filter_parts u.filter) (singles u.singleton e.singleton) (filters u.filter e.filter)))
      (All-cons P (part.Update u.update) (late_parts u) e.update (each_late u e))

always : {X : Type 0} (o : Option X) (P : X → Type 0) → ((x : X) → P x) → IfSome o P
always None P all = tt
always (Some x) P all = all x

each : {X : Type 0} (P : X → Type 0) (xs : List X) → ((x : X) → P x) → All P xs
each P [] all = All-nil P
each P (x ∷ xs) all = All-cons P x xs (all x) (each P xs all)

abbrev pub NotEnd : Part → Type 0
NotEnd p = p ≢ part.End

pub not_ended : (u : Package) → All NotEnd (body_parts u)
not_ended u = each_body NotEnd u (record {
  name = λ e. cc;
  singleton = λ e. cc;
  filter = always u.filter (λ f. NotEnd (part.Filter f)) (λ f e. cc);
  update = λ e. cc;
  touchpoint = always u.touchpoint (λ t. NotEnd (part.Touchpoint t)) (λ t e. cc);
  properties = each (λ x. NotEnd (part.Property x)) u.properties (λ x e. cc);
  provided = each (λ x. NotEnd (part.Provided x)) u.provided (λ x e. cc);
  required = each (λ x. NotEnd (part.Required x)) u.required (λ x e. cc);
  artifacts = each (λ x. NotEnd (part.Artifact x)) u.artifacts (λ x e. cc);
  phases = each (λ x. NotEnd (part.Phase x)) u.phases (λ x e. cc);
})

pub in_form : (u : Package) → IsUnit u → All IsPart (body_parts u)
in_form u is = each_body IsPart u (record {
  name = is.name;
  singleton = tt;
  filter = is.filter;
  update = is.update;
  touchpoint = is.touchpoint;
  properties = each (λ x. IsPart (part.Property x)) u.properties (λ x. tt);
  provided = is.provided;
  required = is.required;
  artifacts = is.artifacts;
  phases = is.phases;
})
