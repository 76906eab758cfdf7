use Rattle.std.proofs.Common.{◌≡◌, ◌≢◌, [], ◌∷◌, ◌++◌, Bor, List, ℕ, MatchOption, Option, Ok, Some, None, inl, ap, sym, ◌∙◌, subst, ⊎_elim}
use Rattle.std.specs.Option.{IsSomeAnd}
use Rattle.std.proofs.lemmas.Bool.{false≢true}
use Rattle.osgi_version.specs.declared.version.Version.{Version}
use Rattle.osgi_version.specs.VersionText.{DenotesVersion}
use Rattle.unit_model.specs.UnitId.{IsUnitId}
use Rattle.director_words.proofs.Cuts.{root_parts, root_version, root_same, known_version}
use Rattle.director_words.proofs.root.Root.read.Goals as goal

pub returns-then-not-is_unit_id-clause-only : goal.returns-then-not-is_unit_id-clause-only
returns-then-not-is_unit_id-clause-only c = λ root d.
    let cut = c.cut_at_slash.result in
    let parts = root_parts c.args.word.now cut.0.now cut.1 root c.cut_at_slash.ensures.before c.cut_at_slash.ensures.whole d in
    absurd (false≢true (sym c.if-not-is_unit_id.true ∙ c.is_unit_id.ensures.1 (subst IsUnitId (sym parts.0) d.0)))

pub returns-in_default-clause-only : goal.returns-in_default-clause-only
returns-in_default-clause-only c = λ root d.
    let cut = c.cut_at_slash.result in
    let Whole : Option (Bor (List ℕ)) → Type 0 = λ b. MatchOption b (c.args.word.now ≡ cut.0.now) (λ text. c.args.word.now ≡ cut.0.now ++ 47 ∷ text.now) in
    let parts = root_parts c.args.word.now cut.0.now None root c.cut_at_slash.ensures.before (subst Whole c.in_default.is c.cut_at_slash.ensures.whole) d in
    inl (ap (λ r. Ok (Some r)) (root_same c.in_ok-id.id None root (c.in_ok-id.ensures ∙ parts.0) (sym parts.1)))

pub returns-in-Some-2-clause-only : goal.returns-in-Some-2-clause-only
returns-in-Some-2-clause-only c = λ root d.
    let cut = c.cut_at_slash.result in
    let parts = root_version c.args.word.now cut.0.now cut.1 c.in-Some.text root c.cut_at_slash.ensures.before c.cut_at_slash.ensures.whole c.in-Some.is d in
    let read = c.in_ok-version.field-0 in
    let only = λ (v : Version) (some : c.in-Some.text.now ≢ []) (den : DenotesVersion c.in-Some.text.now v).
    let same : read ≡ Some v = ⊎_elim (λ e. cc) (λ e. absurd (false≢true e)) (c.in_ok-version.ensures.only v some den) in same in
    let same = known_version c.in-Some.text.now read root.version only parts.1 in
    inl (ap (λ r. Ok (Some r)) (root_same c.in_ok-id.id (Some c.in-Some-2.version) root (c.in_ok-id.ensures ∙ parts.0) (sym c.in-Some-2.is ∙ same)))

pub returns-in-None-clause-only : goal.returns-in-None-clause-only
returns-in-None-clause-only c = λ root d.
    let cut = c.cut_at_slash.result in
    let parts = root_version c.args.word.now cut.0.now cut.1 c.in-Some.text root c.cut_at_slash.ensures.before c.cut_at_slash.ensures.whole c.in-Some.is d in
    let read = c.in_ok-version.field-0 in
    let only = λ (v : Version) (some : c.in-Some.text.now ≢ []) (den : DenotesVersion c.in-Some.text.now v).
    let same : read ≡ Some v = ⊎_elim (λ e. cc) (λ e. absurd (false≢true e)) (c.in_ok-version.ensures.only v some den) in same in
    let same = known_version c.in-Some.text.now read root.version only parts.1 in
    let Has : Option Version → Type 0 = λ version. IsSomeAnd version (λ v. (c.in-Some.text.now ≢ []) × DenotesVersion c.in-Some.text.now v) in
    absurd (subst Has (sym same ∙ c.in-None.is) parts.1)
