-- The text of a digest file: which digest it names for each path.
use Rattle.std.specs.Prelude.{◌≡◌, ◌≢◌, ◌⊎◌, ⊤, ℕ, ◌-◌, ◌+◌, ◌<◌, ◌==◌, List, [], ◌∷◌, ◌++◌, length, take, drop, map, slice_index_or, Option, Some, None, if◌then◌else◌}
use Rattle.std.specs.List.{slice_split}
use Rattle.std.specs.BTreeMap.{get}
use Rattle.std.specs.Borrow.{Bor}
use Rattle.folder_core.specs.PathOrder.{path_cmp}
use Rattle.artifact_pool.specs.DigestLine.{Says}
use Rattle.artifact_pool.specs.declared.digest_line.KnownDigest.{KnownDigest}
use Rattle.artifact_pool.specs.declared.digests.Digests.{Digests}
use Rattle.artifact_pool.specs.declared.digests.DigestFault.{DigestFault}
use Rattle.artifact_pool.specs.declared.digests.DigestFault.TheVariants as fault

-- what stands between the LFs of a text
abbrev pub pieces_of : List ℕ → List (List ℕ)
pieces_of text = slice_split (λ b. b == 10) text

-- without the CR at its end, where it has one
abbrev pub without_cr : List ℕ → List ℕ
without_cr piece = if slice_index_or piece (length piece - 1) 0 == 13 then take (length piece - 1) piece else piece

-- The lines of a text. A CR is dropped before an LF alone, and what stands behind the last LF is a line too.
abbrev pub lines : List ℕ → List (List ℕ)
lines text = map without_cr (take (length (pieces_of text) - 1) (pieces_of text)) ++ drop (length (pieces_of text) - 1) (pieces_of text)

-- pieces of a text, behind references
abbrev pub seen : List (Bor (List ℕ)) → List (List ℕ)
seen slices = map (λ s. s.now) slices

-- An empty line says nothing, and each other names one digest.
abbrev pub IsSaid : List ℕ → List KnownDigest → Type 0
IsSaid line said = ((line ≡ []) × (said ≡ [])) ⊎ ((known : KnownDigest) × Says line known × (said ≡ known ∷ []))

-- what lines say, one after the other
abbrev pub AreRead : List (List ℕ) → List KnownDigest → Type 0
AreRead [] known = known ≡ []
AreRead (line ∷ lines) known = (said rest : List KnownDigest) × IsSaid line said × AreRead lines rest × (known ≡ said ++ rest)

-- The first digest that is named for a path, or None where none is.
abbrev pub IsFirst : List KnownDigest → List (List ℕ) → Option (List ℕ) → Type 0
IsFirst [] path found = found ≡ None
IsFirst (k ∷ known) path found = ((k.path ≡ path) × (found ≡ Some k.digest)) ⊎ ((k.path ≢ path) × IsFirst known path found)

-- Of each path the first digest counts.
abbrev pub AreKnown : List KnownDigest → Digests → Type 0
AreKnown known digests = (path : List (List ℕ)) → IsFirst known path (get path_cmp digests.known path)

-- The line of this number, from 1, is the first that says nothing of the form.
pub record IsFirstBadLine (lines : List (List ℕ)) (number : ℕ) : Type 0 where
  pub before : ℕ
  pub number_is : number ≡ before + 1
  pub inside : before < length lines
  pub said : List KnownDigest
  pub are_read : AreRead (take before lines) said
  pub bad : (said : List KnownDigest) → ¬ (IsSaid (slice_index_or lines before []) said)

-- Want of memory has no cause.
abbrev pub IsDigestFault : List (List ℕ) → DigestFault → Type 0
IsDigestFault lines (fault.BadLine number) = IsFirstBadLine lines number
IsDigestFault lines fault.NoMemory = ⊤
