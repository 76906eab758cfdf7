-- What was read begins a unit's lines, and is a unit's at the end.
use Rattle.std.proofs.Common.{◌≡◌, ℕ, ◌≤◌, true, List, [], ◌∷◌, ◌++◌, length, map, All, Option, Some, None, IfSome, refl, sym, ap, ◌∙◌, subst, append_assoc, append-nil, arith, decimal}
use Rattle.std.specs.List.Sorted.{IsStrictlyIncreasing}
use Rattle.std.specs.Str.{IsUtf8, IsAscii}
use Rattle.std.proofs.lemmas.List.Elements.{All-nil, All-cons, All-head, All-tail, All-append, All-push, All-weaker}
use Rattle.std.proofs.lemmas.Str.{IsUtf8-nil, IsUtf8-from_ascii, IsAscii-append}
use Rattle.std.proofs.lemmas.Str.Ascii.{IsAscii-nil, IsAscii-cons}
use Rattle.std.proofs.lemmas.Fmt.{IsAscii-decimal}
use Rattle.osgi_version.specs.VersionText.{version, version_text}
use Rattle.ldap_filter.specs.FilterText.{IsFilter}
use Rattle.ldap_filter.specs.declared.filter.Filter.{Filter}
use Rattle.unit_model.specs.declared.update.Update.{Update}
use Rattle.unit_model.specs.declared.touchpoint.Touchpoint.{Touchpoint}
use Rattle.unit_model.specs.declared.unit.Unit.{Unit as Package}
use Rattle.unit_lines.specs.Parts.{IsLineOf, IsTouchpoint, IsProvided, IsRequired, IsArtifact, IsPhase, part_line, part_texts}
use Rattle.unit_lines.specs.declared.part.Part.{Part}
use Rattle.unit_lines.specs.declared.part.Part.TheVariants as part
use Rattle.unit_text.specs.declared.draft.Draft.{Draft}
use Rattle.unit_text.specs.UnitText.{singleton_parts, filter_parts, touchpoint_parts, early_parts, late_parts, body_parts, unit_parts, unit_lines, places}
use Rattle.unit_text.specs.Draft.{has, next, with_update}
use Rattle.unit_text.specs.UnitReading.{HasText}
use Rattle.unit_text.proofs.Forms.{NotEnd}
use Rattle.unit_text.proofs.Walks.{IsWhole, front, whole_body, same_line, end_whole}
use Rattle.unit_text.proofs.Drafts.{update_parts, tail_parts, draft_parts, IsDraft}
use Rattle.unit_text.proofs.Runs.{refuses}

back : {X : Type 0} (P : X → Type 0) (xs ys : List X) → All P (xs ++ ys) → All P ys
back P [] ys all = all
back P (x ∷ xs) ys all = back P xs ys (All-tail P x (xs ++ ys) all)

unmap : {X : Type 0} (f : X → Part) (Q : X → Type 0) → ((x : X) → IsWhole (f x) → Q x) → (xs : List X) → All IsWhole (map f xs) → All Q xs
unmap f Q gives [] all = All-nil Q
unmap f Q gives (x ∷ xs) all = All-cons Q x xs (gives x (All-head IsWhole (f x) (map f xs) all)) (unmap f Q gives xs (All-tail IsWhole (f x) (map f xs) all))

filter_form : (o : Option Filter) → All IsWhole (filter_parts o) → IfSome o IsFilter
filter_form None all = tt
filter_form (Some f) all = let w = All-head IsWhole (part.Filter f) [] all in w.form

touchpoint_form : (o : Option Touchpoint) → All IsWhole (touchpoint_parts o) → IfSome o IsTouchpoint
touchpoint_form None all = tt
touchpoint_form (Some t) all = let w = All-head IsWhole (part.Touchpoint t) [] all in w.form

-- A unit of whole parts has a text.
pub has_text : (u : Package) → All IsWhole (unit_parts u) → length u.required ≤ 1024 → IsStrictlyIncreasing (places u.phases) → HasText u
has_text u whole few rising =
    let body = front IsWhole (body_parts u) (part.End ∷ []) whole in
    let early = front IsWhole (early_parts u) (part.Update u.update ∷ late_parts u) body in
    let at_update = back IsWhole (early_parts u) (part.Update u.update ∷ late_parts u) body in
    let name = All-head IsWhole (part.Name u.name) (singleton_parts u.singleton ++ filter_parts u.filter) early in
    let filters = back IsWhole (singleton_parts u.singleton) (filter_parts u.filter) (All-tail IsWhole (part.Name u.name) (singleton_parts u.singleton ++ filter_parts u.filter) early) in
    let update = All-head IsWhole (part.Update u.update) (late_parts u) at_update in
    let late = All-tail IsWhole (part.Update u.update) (late_parts u) at_update in
    let touchpoints = front IsWhole (touchpoint_parts u.touchpoint) _ late in
    let of_properties = back IsWhole (touchpoint_parts u.touchpoint) _ late in
    let of_provided = back IsWhole (map part.Property u.properties) _ of_properties in
    let of_required = back IsWhole (map part.Provided u.provided) _ of_provided in
    let of_artifacts = back IsWhole (map part.Required u.required) _ of_required in
    let phases = back IsWhole (map part.Artifact u.artifacts) (map part.Phase u.phases) of_artifacts in
    record {
      form = record {
        name = name.form;
        filter = filter_form u.filter filters;
        update = update.form;
        touchpoint = touchpoint_form u.touchpoint touchpoints;
        provided = unmap part.Provided IsProvided (λ x w. w.form) u.provided (front IsWhole (map part.Provided u.provided) _ of_provided);
        required = unmap part.Required IsRequired (λ x w. w.form) u.required (front IsWhole (map part.Required u.required) _ of_required);
        few = few;
        artifacts = unmap part.Artifact IsArtifact (λ x w. w.form) u.artifacts (front IsWhole (map part.Artifact u.artifacts) _ of_artifacts);
        phases = unmap part.Phase IsPhase (λ x w. w.form) u.phases phases;
        rising = rising;
      };
      texts = All-weaker IsWhole (λ p. All IsUtf8 (part_texts p)) (λ p w. w.utf8) (unit_parts u) whole;
    }

-- an update of which there is a line, whatever the unit

some_update : Update
some_update = record {
  id = [];
  range = record { floor = version 0 0 0 []; floor_included = true; ceiling = None };
  severity = 0;
  description = [];
}

ascii_zero : IsAscii (decimal 0)
ascii_zero = IsAscii-decimal 0 (omega arith)

ascii_version : IsAscii (version_text (version 0 0 0 []))
ascii_version =
    IsAscii-append (decimal 0) _ ascii_zero
    (IsAscii-cons 46 _ (omega arith) (IsAscii-append (decimal 0) _ ascii_zero (IsAscii-cons 46 _ (omega arith) (IsAscii-append (decimal 0) [] ascii_zero IsAscii-nil))))

pub ascii_range : IsUtf8 (version_text (version 0 0 0 []))
ascii_range = IsUtf8-from_ascii (version_text (version 0 0 0 [])) ascii_version

some_whole : IsWhole (part.Update some_update)
unfolding some_update
some_whole = record {
  form = record {
    range = record {
      floor = record { major = omega arith; minor = omega arith; micro = omega arith; qualifier = All-nil _; short = omega arith };
      ceiling = refl;
    };
    severity = omega arith;
  };
  utf8 = All-cons IsUtf8 [] (version_text (version 0 0 0 []) ∷ decimal 0 ∷ [] ∷ []) IsUtf8-nil
      (All-cons IsUtf8 (version_text (version 0 0 0 [])) (decimal 0 ∷ [] ∷ []) ascii_range
      (All-cons IsUtf8 (decimal 0) ([] ∷ []) (IsUtf8-from_ascii (decimal 0) ascii_zero) (All-cons IsUtf8 [] [] IsUtf8-nil (All-nil IsUtf8))));
  spelling = refl;
}

-- with an update, but for the end, it is a unit
body_with : (d : Draft) (u : Update) → d.update ≡ Some u → body_parts (with_update d u) ≡ draft_parts d
body_with d u is =
    (λ i. part.Name d.name ∷ append_assoc (singleton_parts d.singleton) (filter_parts d.filter) (part.Update u ∷ tail_parts d) i)
    ∙ (λ i. part.Name d.name ∷ (singleton_parts d.singleton ++ (filter_parts d.filter ++ (update_parts (sym is i) ++ tail_parts d))))

pub ends_with : (d : Draft) (u : Update) → d.update ≡ Some u → unit_parts (with_update d u) ≡ draft_parts d ++ part.End ∷ []
ends_with d u is = ap (λ l. l ++ part.End ∷ []) (body_with d u is)

pub whole_with : (d : Draft) → IsDraft d → (u : Update) → d.update ≡ Some u → HasText (with_update d u)
whole_with d is u there =
    has_text (with_update d u) (subst (All IsWhole) (sym (ends_with d u there)) (All-push IsWhole (draft_parts d) part.End is.whole end_whole)) is.few is.rising

-- what follows behind what was read, for some unit
pub record GoesOn (d : Draft) : Type 0 where
  pub unit : Package
  pub next_part : Part
  pub behind : List Part
  pub has_text : HasText unit
  pub parts : unit_parts unit ≡ draft_parts d ++ next_part ∷ behind

no_update_yet : (d : Draft) → d.update ≡ None → tail_parts d ≡ [] → draft_parts d ≡ part.Name d.name ∷ (singleton_parts d.singleton ++ filter_parts d.filter)
no_update_yet d none nothing =
    (λ i. part.Name d.name ∷ (singleton_parts d.singleton ++ (filter_parts d.filter ++ (update_parts (none i) ++ nothing i))))
    ∙ (λ i. part.Name d.name ∷ (singleton_parts d.singleton ++ append-nil (filter_parts d.filter) i))

without_update : (d : Draft) → IsDraft d → d.update ≡ None → GoesOn d
without_update d is none =
    let w = with_update d some_update in
    let nothing = is.ordered (ap has none) in
    let parts : unit_parts w ≡ draft_parts d ++ part.Update some_update ∷ part.End ∷ [] =
    append_assoc (early_parts w) (part.Update some_update ∷ tail_parts d) (part.End ∷ [])
    ∙ ((λ i. early_parts w ++ part.Update some_update ∷ (nothing i ++ part.End ∷ []))
    ∙ sym (ap (λ l. l ++ part.Update some_update ∷ part.End ∷ []) (no_update_yet d none nothing))) in
    let more : All IsWhole (part.Update some_update ∷ part.End ∷ []) = All-cons IsWhole (part.Update some_update) (part.End ∷ []) some_whole (All-cons IsWhole part.End [] end_whole (All-nil IsWhole)) in
    record {
      unit = w;
      next_part = part.Update some_update;
      behind = part.End ∷ [];
      has_text = has_text w (subst (All IsWhole) (sym parts) (All-append IsWhole (draft_parts d) (part.Update some_update ∷ part.End ∷ []) is.whole more)) is.few is.rising;
      parts = parts;
    }

goes_by : (d : Draft) → IsDraft d → (o : Option Update) → d.update ≡ o → GoesOn d
goes_by d is None none = without_update d is none
goes_by d is (Some u) there = record {
  unit = with_update d u;
  next_part = part.End;
  behind = [];
  has_text = whole_with d is u there;
  parts = ends_with d u there;
}

pub goes_on : (d : Draft) → IsDraft d → GoesOn d
goes_on d is = goes_by d is d.update refl

-- A unit's lines that begin with those of what was read go on behind them.
pub record Behind (us ps : List Part) (s r : List (List ℕ)) : Type 0 where
  pub next_part : Part
  pub behind : List Part
  pub parts : us ≡ ps ++ next_part ∷ behind
  pub lines : part_line next_part ∷ (map part_line behind ++ s) ≡ r

pub parted : (bs ps : List Part) (s r : List (List ℕ)) → All NotEnd ps → All IsWhole bs → All IsWhole ps → map part_line (bs ++ part.End ∷ []) ++ s ≡ map part_line ps ++ r
    → Behind (bs ++ part.End ∷ []) ps s r
parted [] [] s r going wb wp e = record { next_part = part.End; behind = []; parts = refl; lines = e }
parted [] (p ∷ ps) s r going wb wp e =
    let line : part_line part.End ≡ part_line p = cc in
    absurd (All-head NotEnd p ps going (sym (same_line part.End p end_whole (All-head IsWhole p ps wp) line)))
parted (b ∷ bs) [] s r going wb wp e = record { next_part = b; behind = bs ++ part.End ∷ []; parts = refl; lines = e }
parted (b ∷ bs) (p ∷ ps) s r going wb wp e =
    let line : part_line b ≡ part_line p = cc in
    let rest : map part_line (bs ++ part.End ∷ []) ++ s ≡ map part_line ps ++ r = cc in
    let head = same_line b p (All-head IsWhole b bs wb) (All-head IsWhole p ps wp) line in
    let more = parted bs ps s r (All-tail NotEnd p ps going) (All-tail IsWhole b bs wb) (All-tail IsWhole p ps wp) rest in
    record { next_part = more.next_part; behind = more.behind; parts = λ i. head i ∷ more.parts i; lines = more.lines }

seam : {X : Type 0} (P : X → Type 0) (xs : List X) (x : X) (ys : List X) → All P (xs ++ x ∷ ys) → P x
seam P xs x ys all = All-head P x ys (back P xs (x ∷ ys) all)

whole_unit : (u : Package) → HasText u → All IsWhole (unit_parts u)
whole_unit u has = All-push IsWhole (body_parts u) part.End (whole_body u has.form has.texts) end_whole

abbrev pub IsRefused : Draft → List ℕ → Type 0
IsRefused d line = (p : Part) → IsLineOf line p → next d p ≡ None

-- A line whose part isn't put is no unit's there.
pub refuted : (d : Draft) → IsDraft d → (line : List ℕ) → IsRefused d line → (u : Package) → HasText u → (s r : List (List ℕ)) → unit_lines u ++ s ≡ map part_line (draft_parts d) ++ line ∷ r → ⊥
refuted d is line refused u has s r e =
    let b = parted (body_parts u) (draft_parts d) s (line ∷ r) is.going (whole_body u has.form has.texts) is.whole e in
    let w = seam IsWhole (draft_parts d) b.next_part b.behind (subst (All IsWhole) b.parts (whole_unit u has)) in
    let lines = b.lines in
    let here : part_line b.next_part ≡ line = cc in
    refuses d is u has.form b.next_part b.behind b.parts (refused b.next_part (record { form = w.form; utf8 = w.utf8; spelling = here }))

-- Nor does a unit end with what was read.
pub unended : (d : Draft) → IsDraft d → (u : Package) → HasText u → (s : List (List ℕ)) → unit_lines u ++ s ≡ map part_line (draft_parts d) → ⊥
unended d is u has s e =
    let b = parted (body_parts u) (draft_parts d) s [] is.going (whole_body u has.form has.texts) is.whole (e ∙ sym (append-nil (map part_line (draft_parts d)))) in
    let lines = b.lines in
    absurd (cc)
