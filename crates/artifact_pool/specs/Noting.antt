-- What is known while a digest file is read. Clauses of private functions alone cite this.
use Rattle.std.specs.Prelude.{ℕ, ◌+◌, Bool, true, false, List, ◌++◌, Option, Some, None}
use Rattle.artifact_pool.specs.DigestText.{IsSaid, AreRead, AreKnown, IsFirstBadLine}
use Rattle.artifact_pool.specs.declared.digest_line.KnownDigest.{KnownDigest}
use Rattle.artifact_pool.specs.declared.digests.Digests.{Digests}

-- What the line says is noted behind what was known, or it says nothing of the form.
abbrev pub IsNoted : Bool → List ℕ → Digests → Digests → Type 0
IsNoted true line old new = (said : List KnownDigest) × IsSaid line said × ((before : List KnownDigest) → AreKnown before old → AreKnown (before ++ said) new)
IsNoted false line old new = (said : List KnownDigest) → ¬ (IsSaid line said)

-- What all lines say is noted, or the line at this place is the first that says nothing of the form.
abbrev pub AreNoted : Option ℕ → List (List ℕ) → Digests → Type 0
AreNoted None lines digests = (known : List KnownDigest) × AreRead lines known × AreKnown known digests
AreNoted (Some place) lines digests = IsFirstBadLine lines (place + 1)
