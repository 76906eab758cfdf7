-- A unit is built of its parts one by one, so its parts tell which it is.
use Rattle.std.proofs.Common.{◌≡◌, Bool, true, false, List, [], ◌∷◌, ◌++◌, map, Option, Some, None, refl, sym, ap, ◌∙◌, append-nil, append_assoc}
use Rattle.ldap_filter.specs.declared.filter.Filter.{Filter}
use Rattle.unit_model.specs.declared.name.UnitName.{UnitName}
use Rattle.unit_model.specs.declared.update.Update.{Update}
use Rattle.unit_model.specs.declared.touchpoint.Touchpoint.{Touchpoint}
use Rattle.unit_model.specs.declared.property.Property.{Property}
use Rattle.unit_model.specs.declared.provided.Provided.{Provided}
use Rattle.unit_model.specs.declared.required.Required.{Required}
use Rattle.unit_model.specs.declared.artifact.ArtifactKey.{ArtifactKey}
use Rattle.unit_model.specs.declared.phase.PhaseText.{PhaseText}
use Rattle.unit_model.specs.declared.unit.Unit.{Unit as Package}
use Rattle.unit_lines.specs.declared.part.Part.{Part}
use Rattle.unit_lines.specs.declared.part.Part.TheVariants as part
use Rattle.unit_text.specs.UnitText.{singleton_parts, filter_parts, touchpoint_parts, late_parts, body_parts}

abbrev pub make : UnitName → Bool → Option Filter → Update → Option Touchpoint → List Property → List Provided → List Required → List ArtifactKey → List PhaseText → Package
make n b f u t ps qs rs as' hs = record {
  name = n;
  singleton = b;
  filter = f;
  update = u;
  touchpoint = t;
  properties = ps;
  provided = qs;
  required = rs;
  artifacts = as';
  phases = hs;
}

-- the unit with one more part
abbrev pub put : Package → Part → Package
put u (part.Name name) = record u { name = name }
put u part.Singleton = record u { singleton = true }
put u (part.Filter filter) = record u { filter = Some filter }
put u (part.Update update) = record u { update = update }
put u (part.Touchpoint touchpoint) = record u { touchpoint = Some touchpoint }
put u (part.Property property) = record u { properties = u.properties ++ property ∷ [] }
put u (part.Provided provided) = record u { provided = u.provided ++ provided ∷ [] }
put u (part.Required required) = record u { required = u.required ++ required ∷ [] }
put u (part.Artifact artifact) = record u { artifacts = u.artifacts ++ artifact ∷ [] }
put u (part.Phase phase) = record u { phases = u.phases ++ phase ∷ [] }
put u part.End = u

pub built : Package → List Part → Package
built u [] = u
built u (p ∷ ps) = built (put u p) ps

module _ (n : UnitName) (b : Bool) (f : Option Filter) (u : Update) (t : Option Touchpoint) where
  of_properties : (done xs : List Property) (rest : List Part) → built (make n b f u t done [] [] [] []) (map part.Property xs ++ rest) ≡ built (make n b f u t (done ++ xs) [] [] [] []) rest
  unfolding built
  of_properties done [] rest = ap (λ l. built (make n b f u t l [] [] [] []) rest) (sym (append-nil done))
  of_properties done (x ∷ xs) rest = of_properties (done ++ x ∷ []) xs rest ∙ ap (λ l. built (make n b f u t l [] [] [] []) rest) (append_assoc done (x ∷ []) xs)

  of_provided : (ps : List Property) (done xs : List Provided) (rest : List Part) → built (make n b f u t ps done [] [] []) (map part.Provided xs ++ rest) ≡ built (make n b f u t ps (done ++ xs) [] [] []) rest
  unfolding built
  of_provided ps done [] rest = ap (λ l. built (make n b f u t ps l [] [] []) rest) (sym (append-nil done))
  of_provided ps done (x ∷ xs) rest = of_provided ps (done ++ x ∷ []) xs rest ∙ ap (λ l. built (make n b f u t ps l [] [] []) rest) (append_assoc done (x ∷ []) xs)

  of_required : (ps : List Property) (qs : List Provided) (done xs : List Required) (rest : List Part) → built (make n b f u t ps qs done [] []) (map part.Required xs ++ rest) ≡ built (make n b f u t ps qs (done ++ xs) [] []) rest
  unfolding built
  of_required ps qs done [] rest = ap (λ l. built (make n b f u t ps qs l [] []) rest) (sym (append-nil done))
  of_required ps qs done (x ∷ xs) rest = of_required ps qs (done ++ x ∷ []) xs rest ∙ ap (λ l. built (make n b f u t ps qs l [] []) rest) (append_assoc done (x ∷ []) xs)

  of_artifacts : (ps : List Property) (qs : List Provided) (rs : List Required) (done xs : List ArtifactKey) (rest : List Part)
      → built (make n b f u t ps qs rs done []) (map part.Artifact xs ++ rest) ≡ built (make n b f u t ps qs rs (done ++ xs) []) rest
  unfolding built
  of_artifacts ps qs rs done [] rest = ap (λ l. built (make n b f u t ps qs rs l []) rest) (sym (append-nil done))
  of_artifacts ps qs rs done (x ∷ xs) rest = of_artifacts ps qs rs (done ++ x ∷ []) xs rest ∙ ap (λ l. built (make n b f u t ps qs rs l []) rest) (append_assoc done (x ∷ []) xs)

  of_phases : (ps : List Property) (qs : List Provided) (rs : List Required) (as' : List ArtifactKey) (done xs : List PhaseText)
      → built (make n b f u t ps qs rs as' done) (map part.Phase xs) ≡ make n b f u t ps qs rs as' (done ++ xs)
  unfolding built
  of_phases ps qs rs as' done [] = ap (make n b f u t ps qs rs as') (sym (append-nil done))
  of_phases ps qs rs as' done (x ∷ xs) = of_phases ps qs rs as' (done ++ x ∷ []) xs ∙ ap (make n b f u t ps qs rs as') (append_assoc done (x ∷ []) xs)

  of_lists : (ps : List Property) (qs : List Provided) (rs : List Required) (as' : List ArtifactKey) (hs : List PhaseText)
      → built (make n b f u t [] [] [] [] []) (map part.Property ps ++ (map part.Provided qs ++ (map part.Required rs ++ (map part.Artifact as' ++ map part.Phase hs)))) ≡ make n b f u t ps qs rs as' hs
  of_lists ps qs rs as' hs =
      of_properties [] ps _ ∙ (of_provided ps [] qs _ ∙ (of_required ps qs [] rs _ ∙ (of_artifacts ps qs rs [] as' _ ∙ of_phases ps qs rs as' [] hs)))

of_touchpoint : (n : UnitName) (b : Bool) (f : Option Filter) (u : Update) (t : Option Touchpoint) (rest : List Part)
    → built (make n b f u None [] [] [] [] []) (touchpoint_parts t ++ rest) ≡ built (make n b f u t [] [] [] [] []) rest
unfolding built
of_touchpoint n b f u None rest = refl
of_touchpoint n b f u (Some t) rest = refl

of_filter : (n : UnitName) (b : Bool) (f : Option Filter) (u : Update) (rest : List Part) → built (make n b None u None [] [] [] [] []) (filter_parts f ++ rest) ≡ built (make n b f u None [] [] [] [] []) rest
unfolding built
of_filter n b None u rest = refl
of_filter n b (Some f) u rest = refl

of_singleton : (n : UnitName) (b : Bool) (u : Update) (rest : List Part) → built (make n false None u None [] [] [] [] []) (singleton_parts b ++ rest) ≡ built (make n b None u None [] [] [] [] []) rest
unfolding built
of_singleton n true u rest = refl
of_singleton n false u rest = refl

-- before the first part
abbrev pub bare : UnitName → Update → Package
bare n u = make n false None u None [] [] [] [] []

pub rebuilt : (n : UnitName) (d : Update) (u : Package) → built (bare n d) (body_parts u) ≡ u
unfolding built
rebuilt n d u =
    ap (built (bare u.name d)) (append_assoc (singleton_parts u.singleton) (filter_parts u.filter) (part.Update u.update ∷ late_parts u))
    ∙ (of_singleton u.name u.singleton d (filter_parts u.filter ++ part.Update u.update ∷ late_parts u)
    ∙ (of_filter u.name u.singleton u.filter d (part.Update u.update ∷ late_parts u)
    ∙ (of_touchpoint u.name u.singleton u.filter u.update u.touchpoint _
    ∙ of_lists u.name u.singleton u.filter u.update u.touchpoint u.properties u.provided u.required u.artifacts u.phases)))

-- Units with the same parts are equal.
pub same_parts : (u v : Package) → body_parts u ≡ body_parts v → u ≡ v
same_parts u v same = sym (rebuilt u.name u.update u) ∙ (ap (built (bare u.name u.update)) same ∙ rebuilt u.name u.update v)
