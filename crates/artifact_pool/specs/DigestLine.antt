-- One line of a digest file, as `sha256sum` writes it.
use Rattle.std.specs.Prelude.{◌≡◌, ◌⊎◌, ℕ, List, ◌∷◌, ◌++◌, Ok}
use Rattle.hex.specs.Hex.{decode_sized}
use Rattle.folder_core.specs.Path.{path_text}
use Rattle.artifact_pool.specs.ArtifactPath.{IsArtifactPath}
use Rattle.artifact_pool.specs.declared.digest_line.KnownDigest.{KnownDigest}

-- two blanks or a blank and `*`, and the text
pub record IsMarked (rest text : List ℕ) : Type 0 where
  pub mark : ℕ
  pub spelled : rest ≡ 32 ∷ mark ∷ text
  pub marked : (mark ≡ 32) ⊎ (mark ≡ 42)

abbrev pub HasNoMark : List ℕ → Type 0
HasNoMark rest = (text : List ℕ) → ¬ (IsMarked rest text)

-- 32 bytes in hexadecimal digits of either case, two blanks or a blank and `*`, and the artifact's path
pub record Says (line : List ℕ) (known : KnownDigest) : Type 0 where
  pub digits : List ℕ
  pub rest : List ℕ
  pub spelled : line ≡ digits ++ rest
  pub digest : decode_sized digits 32 ≡ Ok known.digest
  pub marked : IsMarked rest (path_text known.path)
  pub path : IsArtifactPath known.path

abbrev pub SaysNothing : List ℕ → Type 0
SaysNothing line = (known : KnownDigest) → ¬ (Says line known)
