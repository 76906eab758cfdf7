-- What the keys of a p2.inf mean. Numbers are 0 to 999999, in decimal digits without a leading zero.
use Rattle.std.specs.Prelude.{◌≡◌, ◌≢◌, ◌⊎◌, ◌≤◌, ℕ, Bool, true, false, List, ◌++◌, codes, ⊤}
use Rattle.inf_keys.specs.declared.fields.Single.TheVariants as single
use Rattle.inf_keys.specs.declared.key.Owner.{Owner}
use Rattle.inf_keys.specs.declared.key.Owner.TheVariants.{Host, Unit}
use Rattle.inf_keys.specs.declared.key.Part.{Part}
use Rattle.inf_keys.specs.declared.key.Part.TheVariants as part
use Rattle.inf_keys.specs.declared.key.Key.{Key}
use Rattle.inf_keys.specs.declared.reading.Reading.{Reading}
use Rattle.inf_keys.specs.declared.reading.Reading.TheVariants as reading
use Rattle.inf_keys.specs.KeyText.{row_text, owner_text, key_text}

-- whether a host has the part: its id and its version are those of the folder's name, and it has no artifacts
abbrev pub host_has : Part → Bool
host_has (part.Single single.Id) = false
host_has (part.Single single.Version) = false
host_has (part.Single single.Singleton) = false
host_has (part.Single single.Filter) = false
host_has (part.Single single.TouchpointId) = false
host_has (part.Single single.TouchpointVersion) = false
host_has (part.Artifact n f) = false
host_has _ = true

-- A unit has every part.
abbrev pub has : Owner → Part → Bool
has Host part = host_has part
has (Unit n) part = true

abbrev pub IsOwner : Owner → Type 0
IsOwner Host = ⊤
IsOwner (Unit n) = n ≤ 999999

-- The number of a part's row isn't too great.
abbrev pub IsPart : Part → Type 0
IsPart (part.Property n f) = n ≤ 999999
IsPart (part.Provided n f) = n ≤ 999999
IsPart (part.Required n f) = n ≤ 999999
IsPart (part.Artifact n f) = n ≤ 999999
IsPart (part.Single s) = ⊤
IsPart (part.Instruction p f) = ⊤

-- The numbers are ones that keys have, and the owner has such a part.
pub record IsKey (key : Key) : Type 0 where
  pub owner : IsOwner key.owner
  pub part : IsPart key.part
  pub has : has key.owner key.part ≡ true

abbrev pub BeginsWith : List ℕ → List ℕ → Type 0
BeginsWith front text = (rest : List ℕ) × (text ≡ front ++ rest)

-- what is taken and says nothing
abbrev pub IsSilentPart : List ℕ → Type 0
IsSilentPart text =
    (text ≡ codes "advice.version")
    ⊎ (BeginsWith (codes "metaRequirements.") text ⊎ (BeginsWith (codes "licenses.") text ⊎ BeginsWith (codes "copyright") text))

-- what the format has and isn't taken
abbrev pub IsLeftOutPart : List ℕ → Type 0
IsLeftOutPart text =
    (text ≡ codes "update.matchExp")
    ⊎ (BeginsWith (codes "hostRequirements.") text
    ⊎ ((row : ℕ) × (row ≤ 999999) × (text ≡ row_text (codes "requires") row (codes "matchExp"))))

-- The text is such a part of the host, or of a unit.
abbrev pub IsOwned : (List ℕ → Type 0) → List ℕ → Type 0
IsOwned IsSuch text = (owner : Owner) × (part : List ℕ) × IsOwner owner × (text ≡ owner_text owner part) × IsSuch part

-- a key that is taken and says nothing
abbrev pub IsSilent : List ℕ → Type 0
IsSilent = IsOwned IsSilentPart

-- a key of the format that isn't taken
abbrev pub IsLeftOut : List ℕ → Type 0
IsLeftOut = IsOwned IsLeftOutPart

-- What a text means as a key. It means nothing where it is none of the three.
abbrev pub Means : List ℕ → Reading Key → Type 0
Means text (reading.Meaning key) = IsKey key × (text ≡ key_text key)
Means text reading.Silent = IsSilent text
Means text reading.LeftOut = IsLeftOut text
Means text reading.Unknown = ((key : Key) → IsKey key → text ≢ key_text key) × (IsSilent text → ⊥) × (IsLeftOut text → ⊥)
