-- The names in the path of an artifact's file are names.
use Rattle.std.proofs.Common.{◌≡◌, ◌≢◌, ℕ, zero, suc, ◌+◌, ◌<◌, ◌≤◌, List, [], ◌∷◌, ◌++◌, length, get_or, All, refl, ap, sym, ◌∙◌, subst, arith, lit≤, lit<, length-append}
use Rattle.std.specs.Prelude.{codes}
use Rattle.std.specs.Str.{IsUtf8, IsAscii}
use Rattle.std.proofs.lemmas.Str.{IsUtf8-from_ascii, IsUtf8-append}
use Rattle.std.proofs.Math.Seq.{get_or-append_seam}
use Rattle.std.proofs.lemmas.List.Elements.{All-cons, All-append, All-contains}
use Rattle.osgi_version.proofs.VersionPlaces.{IsVersion-denoted}
use Rattle.unit_model.specs.UnitId.{IsUnitId}
use Rattle.folder_core.specs.Name.{IsName}
use Rattle.folder_core.specs.Path.{IsPath, path_text}
use Rattle.folder_core.proofs.Paths.{IsPath-nil, IsPath-push}
use Rattle.artifact_pool.specs.ArtifactPath.{IsCanonical, IsArtifactName, IsArtifactPath}
use Rattle.artifact_pool.proofs.Bytes.{IsPlain, plain_ascii, plain_id, plain_version, version_short}

plain_name : (bytes : List ℕ) → All IsPlain bytes → bytes ≢ [] → length bytes ≤ 255 → bytes ≢ codes "." → bytes ≢ codes ".." → IsName bytes
plain_name bytes all some short no_dot no_dots = record {
  utf8 = IsUtf8-from_ascii bytes (plain_ascii bytes all);
  some = some;
  short = short;
  no_slash = λ has. (All-contains IsPlain bytes 47 all has).no_slash refl;
  no_nul = λ has. let high = (All-contains IsPlain bytes 0 all has).high in omega arith;
  no_dot = no_dot;
  no_dots = no_dots;
}

id_name : (id : List ℕ) → IsUnitId id → IsName id
id_name id is = plain_name id (plain_id id is) is.some (let short = is.short in omega arith) is.not_dot is.not_dots

underscore : IsPlain 95
underscore = record { high = lit≤ tt; low = lit≤ tt; no_slash = λ is. omega arith }

plain_canonical : (text : List ℕ) → IsCanonical text → All IsPlain text
plain_canonical text c = subst (All IsPlain) c.spelled (plain_version c.version (IsVersion-denoted text c.version c.denotes))

canonical_short : (text : List ℕ) → IsCanonical text → length text ≤ 113
canonical_short text c = subst (λ t. length t ≤ 113) c.spelled (version_short c.version (IsVersion-denoted text c.version c.denotes))

plain_parts : (name : List ℕ) → IsArtifactName name → All IsPlain name
plain_parts name is = subst (All IsPlain) (sym is.spelled)
    (All-append IsPlain is.id (95 ∷ is.version) (plain_id is.id is.is_id) (All-cons IsPlain 95 is.version underscore (plain_canonical is.version is.is_canonical)))

some_length : (xs : List ℕ) → xs ≢ [] → 0 < length xs
some_length [] some = absurd (some refl)
some_length (x ∷ xs) some = omega arith

-- the second byte would be the `_`
dots_version : (id version : List ℕ) → 0 < length id → length id + (length version + 1) ≡ 2 → id ++ 95 ∷ version ≢ codes ".."
dots_version id version some two e =
    let seam : get_or (id ++ 95 ∷ version) (length id) 0 ≡ 95 = get_or-append_seam id 95 version 0 in
    let one : length id ≡ 1 = omega (arith, some, two) in
    let at : get_or (codes "..") (length id) 0 ≡ 95 = ap (λ (l : List ℕ). get_or l (length id) 0) (sym e) ∙ seam in
    let dot : get_or (codes "..") 1 0 ≡ 95 = subst (λ n. get_or (codes "..") n 0 ≡ 95) one at in
    let no : 46 ≡ 95 = dot in
    omega (arith, no)

artifact_name : (name : List ℕ) → IsArtifactName name → IsName name
artifact_name name is =
    let both = length-append is.id (95 ∷ is.version) in
    let long : length name ≡ length is.id + (length is.version + 1) = ap length is.spelled ∙ (omega (arith, both)) in
    let some = some_length is.id is.is_id.some in
    let short = is.is_id.short in
    let version = canonical_short is.version is.is_canonical in
    plain_name name (plain_parts name is) (λ e. omega (arith, long, ap length e)) (omega (arith, long, short, version))
    (λ e. omega (arith, long, some, ap length e)) (λ e. dots_version is.id is.version some (let two : length name ≡ 2 = ap length e in omega (arith, long, two)) (sym is.spelled ∙ e))

pub artifact_path : (path : List (List ℕ)) → IsArtifactPath path → IsPath path
artifact_path path is = subst IsPath (sym is.names)
    (IsPath-push (is.classifier ∷ []) is.name (omega arith) (IsPath-push [] is.classifier (omega arith) IsPath-nil (id_name is.classifier is.is_classifier)) (artifact_name is.name is.is_name))

slash_ascii : IsAscii (47 ∷ [])
slash_ascii zero = lit< tt
slash_ascii (suc i) = lit< tt

slash_plain : (front back : List ℕ) → All IsPlain front → All IsPlain back → IsUtf8 (front ++ 47 ∷ back)
slash_plain front back first second =
    IsUtf8-append front (47 ∷ back) (IsUtf8-from_ascii front (plain_ascii front first))
    (IsUtf8-append (47 ∷ []) back (IsUtf8-from_ascii (47 ∷ []) slash_ascii) (IsUtf8-from_ascii back (plain_ascii back second)))

pub artifact_text : (path : List (List ℕ)) → IsArtifactPath path → IsUtf8 (path_text path)
artifact_text path is = subst (λ p. IsUtf8 (path_text p)) (sym is.names)
    (slash_plain is.classifier is.name (plain_id is.classifier is.is_classifier) (plain_parts is.name is.is_name))
