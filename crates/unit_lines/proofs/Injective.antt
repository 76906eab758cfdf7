-- Each part has a line of its own.
use Rattle.std.proofs.Common.{◌≡◌, ◌≢◌, ℕ, ◌==◌, Bool, true, false, List, [], ◌∷◌, map, get_or, All, Option, Some, None, IfSome, refl, sym, ap, ◌∙◌, subst, arith, decimal}
use Rattle.std.specs.Str.{IsUtf8}
use Rattle.std.proofs.lemmas.List.Elements.{All-head, All-tail}
use Rattle.osgi_version.specs.Field.{field}
use Rattle.osgi_version.proofs.Fields.{field_injective}
use Rattle.ldap_filter.specs.FilterText.{IsFilter, filter_text, Denotes, AllOf, AnyOf, NoneOf, Single}
use Rattle.ldap_filter.specs.declared.filter.Filter.{Filter}
use Rattle.ldap_filter.proofs.FilterPlaces.{DenotesFilter-unique}
use Rattle.unit_lines.proofs.Spellings.{filter_spelled}
use Rattle.case_table.specs.Rows.{beside}
use Rattle.unit_model.specs.declared.name.UnitName.{UnitName}
use Rattle.unit_model.specs.declared.update.Update.{Update}
use Rattle.unit_model.specs.declared.touchpoint.Touchpoint.{Touchpoint}
use Rattle.unit_model.specs.declared.property.Property.{Property}
use Rattle.unit_model.specs.declared.provided.Provided.{Provided}
use Rattle.unit_model.specs.declared.required.Required.{Required}
use Rattle.unit_model.specs.declared.artifact.ArtifactKey.{ArtifactKey}
use Rattle.unit_model.specs.declared.phase.PhaseText.{PhaseText}
use Rattle.unit_model.specs.declared.phase.Phase.{Phase as Stage}
use Rattle.unit_model.specs.declared.phase.Phase.TheVariants as stage
use Rattle.unit_lines.specs.Phases.{phases, phase_name}
use Rattle.unit_lines.specs.Words.{word_of, kinds}
use Rattle.unit_lines.specs.Parts.{IsSmall, IsPart, IsLineOf, IsName, IsUpdate, IsTouchpoint, IsProvided, IsRequired, IsArtifact, part_texts, kind_of, truth_text, optional_text, name_texts, update_texts, touchpoint_texts, property_texts, provided_texts, required_texts, artifact_texts, phase_texts}
use Rattle.unit_lines.specs.declared.words.Kind.{Kind}
use Rattle.unit_lines.specs.declared.words.Kind.TheVariants as kind
use Rattle.unit_lines.specs.declared.part.Part.{Part}
use Rattle.unit_lines.specs.declared.part.Part.TheVariants.{Name, Singleton, Filter as Filtered, Update as Updating, Touchpoint as Touching, Property as Having, Provided as Providing, Required as Requiring, Artifact, Phase, End}
use Rattle.unit_lines.proofs.Numerals.{decimal_value}
use Rattle.unit_lines.proofs.RangeOnce.{nothing_before, version_once, range_once}
use Rattle.unit_lines.proofs.LineLemmas.{split_part}
use Rattle.std.specs.List.{slice_split}
use Rattle.osgi_version.specs.VersionText.{digits_value}
use Rattle.ldap_filter.specs.FilterText.{DenotesFilter}

-- texts are told apart by their fields
pub texts_once : (xs ys : List (List ℕ)) → All IsUtf8 xs → All IsUtf8 ys → map field xs ≡ map field ys → xs ≡ ys
texts_once [] [] ux uy e = refl
texts_once [] (y ∷ ys) ux uy e = absurd (cc)
texts_once (x ∷ xs) [] ux uy e = absurd (cc)
texts_once (x ∷ xs) (y ∷ ys) ux uy e =
    let head : field x ≡ field y = cc in
    let tail : map field xs ≡ map field ys = cc in
    let first = field_injective x y (All-head IsUtf8 x xs ux) (All-head IsUtf8 y ys uy) head in
    let rest = texts_once xs ys (All-tail IsUtf8 x xs ux) (All-tail IsUtf8 y ys uy) tail in
    cc

some_text : (text : List ℕ) (f : Filter) → Denotes text f → text ≢ []
some_text text f (AllOf before gap texts after filters wb wg wa each) e = nothing_before before _ 40 e
some_text text f (AnyOf before gap texts after filters wb wg wa each) e = nothing_before before _ 40 e
some_text text f (NoneOf before gap inner after filter wb wg wa denotes) e = nothing_before before _ 40 e
some_text text f (Single before written tested after attr test wb wa attribute is) e = nothing_before before _ 40 e

-- no filter has the empty text
pub filter_nonempty : (f : Filter) → IsFilter f → filter_text f ≢ []
filter_nonempty f form = some_text (filter_text f) f (filter_spelled f form).denotes

-- single values

filter_once : (f g : Filter) → IsFilter f → IsFilter g → filter_text f ≡ filter_text g → f ≡ g
filter_once f g ff fg e = DenotesFilter-unique (filter_text g) f g (subst (λ t. DenotesFilter t f) e (filter_spelled f ff)) (filter_spelled g fg)

optional_once : (f g : Option Filter) → IfSome f IsFilter → IfSome g IsFilter → optional_text f ≡ optional_text g → f ≡ g
optional_once None None ff fg e = refl
optional_once None (Some g) ff fg e = absurd (filter_nonempty g fg (sym e))
optional_once (Some f) None ff fg e = absurd (filter_nonempty f ff e)
optional_once (Some f) (Some g) ff fg e = ap Some (filter_once f g ff fg e)

number_once : (m n : ℕ) → IsSmall m → IsSmall n → decimal m ≡ decimal n → m ≡ n
number_once m n fm fn e = sym (decimal_value m fm) ∙ (ap digits_value e ∙ decimal_value n fn)

truth_once : (a b : Bool) → truth_text a ≡ truth_text b → a ≡ b
truth_once true true e = refl
truth_once true false e = let heads : 49 ≡ 48 = ap (λ l. get_or l 0 0) e in absurd (omega (arith, heads))
truth_once false true e = let heads : 48 ≡ 49 = ap (λ l. get_or l 0 0) e in absurd (omega (arith, heads))
truth_once false false e = refl

phase_there : (p : Stage) → beside phases (phase_name p) ≡ Some p
phase_there stage.Collect = refl
phase_there stage.Unconfigure = refl
phase_there stage.Uninstall = refl
phase_there stage.Install = refl
phase_there stage.Configure = refl

phase_once : (p q : Stage) → phase_name p ≡ phase_name q → p ≡ q
phase_once p q e = let both : Some p ≡ Some q = sym (phase_there p) ∙ (ap (beside phases) e ∙ phase_there q) in cc

-- parts

names_once : (n m : UnitName) → IsName n → IsName m → name_texts n ≡ name_texts m → n ≡ m
names_once n m fn fm e =
    let ids : n.id ≡ m.id = cc in
    let versions = version_once n.version m.version fn.version fm.version (cc) in λ i. record { id = ids i; version = versions i }

updates_once : (u v : Update) → IsUpdate u → IsUpdate v → update_texts u ≡ update_texts v → u ≡ v
updates_once u v fu fv e =
    let ids : u.id ≡ v.id = cc in
    let ranges = range_once u.range v.range fu.range fv.range (cc) in
    let numbers = number_once u.severity v.severity fu.severity fv.severity (cc) in
    let texts : u.description ≡ v.description = cc in λ i. record { id = ids i; range = ranges i; severity = numbers i; description = texts i }

touchpoints_once : (t u : Touchpoint) → IsTouchpoint t → IsTouchpoint u → touchpoint_texts t ≡ touchpoint_texts u → t ≡ u
touchpoints_once t u ft fu e =
    let ids : t.id ≡ u.id = cc in
    let versions = version_once t.version u.version ft.version fu.version (cc) in λ i. record { id = ids i; version = versions i }

properties_once : (p q : Property) → property_texts p ≡ property_texts q → p ≡ q
properties_once p q e =
    let names : p.name ≡ q.name = cc in
    let values : p.value ≡ q.value = cc in λ i. record { name = names i; value = values i }

provided_once : (p q : Provided) → IsProvided p → IsProvided q → provided_texts p ≡ provided_texts q → p ≡ q
provided_once p q fp fq e =
    let spaces : p.namespace ≡ q.namespace = cc in
    let names : p.name ≡ q.name = cc in
    let versions = version_once p.version q.version fp.version fq.version (cc) in λ i. record { namespace = spaces i; name = names i; version = versions i }

required_once : (r s : Required) → IsRequired r → IsRequired s → required_texts r ≡ required_texts s → r ≡ s
required_once r s fr fs e =
    let spaces : r.namespace ≡ s.namespace = cc in
    let names : r.name ≡ s.name = cc in
    let ranges = range_once r.range s.range fr.range fs.range (cc) in
    let least = number_once r.min s.min fr.min fs.min (cc) in
    let most = number_once r.max s.max fr.max fs.max (cc) in
    let truths = truth_once r.greedy s.greedy (cc) in
    let filters = optional_once r.filter s.filter fr.filter fs.filter (cc) in
    λ i. record { namespace = spaces i; name = names i; range = ranges i; filter = filters i; min = least i; max = most i; greedy = truths i }

artifacts_once : (a b : ArtifactKey) → IsArtifact a → IsArtifact b → artifact_texts a ≡ artifact_texts b → a ≡ b
artifacts_once a b fa fb e =
    let classes : a.classifier ≡ b.classifier = cc in
    let ids : a.id ≡ b.id = cc in
    let versions = version_once a.version b.version fa.version fb.version (cc) in λ i. record { classifier = classes i; id = ids i; version = versions i }

phases_once : (p q : PhaseText) → phase_texts p ≡ phase_texts q → p ≡ q
phases_once p q e =
    let names = phase_once p.phase q.phase (cc) in
    let imports : p.imports ≡ q.imports = cc in
    let texts : p.text ≡ q.text = cc in λ i. record { phase = names i; imports = imports i; text = texts i }

parts_once : (p q : Part) → IsPart p → IsPart q → kind_of p ≡ kind_of q → part_texts p ≡ part_texts q → p ≡ q
parts_once (Name n) (Name m) fp fq k e = ap Name (names_once n m fp fq e)
parts_once (Name n) _ fp fq k e = absurd (cc)
parts_once Singleton Singleton fp fq k e = refl
parts_once Singleton _ fp fq k e = absurd (cc)
parts_once (Filtered f) (Filtered g) fp fq k e = let texts : filter_text f ≡ filter_text g = cc in ap Filtered (filter_once f g fp fq texts)
parts_once (Filtered f) _ fp fq k e = absurd (cc)
parts_once (Updating u) (Updating v) fp fq k e = ap Updating (updates_once u v fp fq e)
parts_once (Updating u) _ fp fq k e = absurd (cc)
parts_once (Touching t) (Touching u) fp fq k e = ap Touching (touchpoints_once t u fp fq e)
parts_once (Touching t) _ fp fq k e = absurd (cc)
parts_once (Having x) (Having y) fp fq k e = ap Having (properties_once x y e)
parts_once (Having x) _ fp fq k e = absurd (cc)
parts_once (Providing x) (Providing y) fp fq k e = ap Providing (provided_once x y fp fq e)
parts_once (Providing x) _ fp fq k e = absurd (cc)
parts_once (Requiring x) (Requiring y) fp fq k e = ap Requiring (required_once x y fp fq e)
parts_once (Requiring x) _ fp fq k e = absurd (cc)
parts_once (Artifact x) (Artifact y) fp fq k e = ap Artifact (artifacts_once x y fp fq e)
parts_once (Artifact x) _ fp fq k e = absurd (cc)
parts_once (Phase x) (Phase y) fp fq k e = ap Phase (phases_once x y e)
parts_once (Phase x) _ fp fq k e = absurd (cc)
parts_once End End fp fq k e = refl
parts_once End _ fp fq k e = absurd (cc)

pub kind_there : (k : Kind) → beside kinds (word_of k) ≡ Some k
kind_there kind.Name = refl
kind_there kind.Singleton = refl
kind_there kind.Filter = refl
kind_there kind.Update = refl
kind_there kind.Touchpoint = refl
kind_there kind.Property = refl
kind_there kind.Provided = refl
kind_there kind.Required = refl
kind_there kind.Artifact = refl
kind_there kind.Phase = refl
kind_there kind.End = refl

words_once : (j k : Kind) → word_of j ≡ word_of k → j ≡ k
words_once j k e = let both : Some j ≡ Some k = sym (kind_there j) ∙ (ap (beside kinds) e ∙ kind_there k) in cc

pub one_part : (line : List ℕ) (p q : Part) → IsLineOf line p → IsLineOf line q → p ≡ q
one_part line p q is other =
    let cut : word_of (kind_of p) ∷ map field (part_texts p) ≡ word_of (kind_of q) ∷ map field (part_texts q) =
    sym (split_part p) ∙ (ap (slice_split (λ b. b == 32)) (is.spelling ∙ sym other.spelling) ∙ split_part q) in
    let words : word_of (kind_of p) ≡ word_of (kind_of q) = cc in
    let fields : map field (part_texts p) ≡ map field (part_texts q) = cc in
    parts_once p q is.form other.form (words_once (kind_of p) (kind_of q) words) (texts_once (part_texts p) (part_texts q) is.utf8 other.utf8 fields)
