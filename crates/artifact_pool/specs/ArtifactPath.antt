-- The paths of artifacts' files.
use Rattle.std.specs.Prelude.{◌≡◌, ◌≢◌, ℕ, ◌+◌, List, [], ◌∷◌, ◌++◌, take, drop, slice_index_or}
use Rattle.osgi_version.specs.VersionText.{DenotesVersion, version_text}
use Rattle.osgi_version.specs.declared.version.Version.{Version}
use Rattle.unit_model.specs.UnitId.{IsUnitId}
use Rattle.folder_core.specs.Path.{path_text}

-- the text denotes a version, and is its canonical one
pub record IsCanonical (text : List ℕ) : Type 0 where
  pub version : Version
  pub denotes : DenotesVersion text version
  pub spelled : version_text version ≡ text

-- `ID_VERSION`
pub record IsArtifactName (name : List ℕ) : Type 0 where
  pub id : List ℕ
  pub version : List ℕ
  pub spelled : name ≡ id ++ 95 ∷ version
  pub is_id : IsUnitId id
  pub is_canonical : IsCanonical version

-- `CLASSIFIER/ID_VERSION`
pub record IsArtifactPath (path : List (List ℕ)) : Type 0 where
  pub classifier : List ℕ
  pub name : List ℕ
  pub names : path ≡ classifier ∷ name ∷ []
  pub is_classifier : IsUnitId classifier
  pub is_name : IsArtifactName name

-- The `_` at this place parts an id from a version. Clauses of private functions alone cite this and what follows.
pub record IsPartedAt (name : List ℕ) (place : ℕ) : Type 0 where
  pub parting : slice_index_or name place 0 ≡ 95
  pub is_id : IsUnitId (take place name)
  pub is_canonical : IsCanonical (drop (place + 1) name)

pub record IsPathSpelled (text : List ℕ) (path : List (List ℕ)) : Type 0 where
  pub is_path : IsArtifactPath path
  pub spelled : path_text path ≡ text

abbrev pub HasNoArtifactPath : List ℕ → Type 0
HasNoArtifactPath text = (path : List (List ℕ)) → IsArtifactPath path → path_text path ≢ text
