-- A name is that of an artifact's file exactly where some `_` parts it.
use Rattle.std.proofs.Common.{◌≡◌, ℕ, ◌+◌, ◌<◌, List, [], ◌∷◌, ◌++◌, length, get_or, take, drop, refl, ap, sym, ◌∙◌, subst, arith, length-append, append_assoc, take-append-drop}
use Rattle.std.proofs.Math.Seq.{get_or-append_seam}
use Rattle.std.proofs.lemmas.List.{take_at, drop_at, drop_more}
use Rattle.unit_model.specs.UnitId.{IsUnitId}
use Rattle.artifact_pool.specs.ArtifactPath.{IsCanonical, IsArtifactName, IsPartedAt}

pub parted : (name : List ℕ) (place : ℕ) → place < length name → IsPartedAt name place → IsArtifactName name
parted name place inside is = record {
  id = take place name;
  version = drop (place + 1) name;
  spelled = sym (take-append-drop place name) ∙ ap (λ r. take place name ++ r) (drop_more name place 0 inside ∙ ap (λ b. b ∷ drop (place + 1) name) is.parting);
  is_id = is.is_id;
  is_canonical = is.is_canonical;
}

pub record IsParted (name : List ℕ) (is : IsArtifactName name) : Type 0 where
  pub inside : length is.id < length name
  pub at : IsPartedAt name (length is.id)

pub parts : (name : List ℕ) (is : IsArtifactName name) → IsParted name is
parts name is =
    let long = length-append is.id (95 ∷ is.version) in
    let whole : length name ≡ length (is.id ++ 95 ∷ is.version) = ap length is.spelled in
    let one : length (is.id ++ 95 ∷ []) ≡ length is.id + 1 = length-append is.id (95 ∷ []) in
    let regroup : is.id ++ 95 ∷ is.version ≡ (is.id ++ 95 ∷ []) ++ is.version = sym (append_assoc is.id (95 ∷ []) is.version) in
    record {
      inside = omega (arith, long, whole);
      at = record {
        parting = ap (λ (l : List ℕ). get_or l (length is.id) 0) is.spelled ∙ get_or-append_seam is.id 95 is.version 0;
        is_id = subst IsUnitId (sym (ap (take (length is.id)) is.spelled ∙ take_at is.id (95 ∷ is.version) (length is.id) refl)) is.is_id;
        is_canonical = subst IsCanonical (sym (ap (drop (length is.id + 1)) (is.spelled ∙ regroup) ∙ drop_at (is.id ++ 95 ∷ []) is.version (length is.id + 1) one)) is.is_canonical;
      };
    }
