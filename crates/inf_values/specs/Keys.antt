-- The keys of one owner, where they stand, and how their values are read. The host is the owner 0, and unit N is N + 1.
use Rattle.std.specs.Prelude.{ℕ, ◌-◌, ◌==◌, Bool, true, false, if◌then◌else◌}
use Rattle.inf_keys.specs.declared.fields.Single.TheVariants as single
use Rattle.inf_keys.specs.declared.fields.ProvidedField.TheVariants as provided
use Rattle.inf_keys.specs.declared.fields.RequiredField.TheVariants as required
use Rattle.inf_keys.specs.declared.fields.ArtifactField.TheVariants as artifact
use Rattle.inf_keys.specs.declared.key.Owner.{Owner}
use Rattle.inf_keys.specs.declared.key.Owner.TheVariants.{Host, Unit}
use Rattle.inf_keys.specs.declared.key.Part.{Part}
use Rattle.inf_keys.specs.declared.key.Part.TheVariants as part
use Rattle.inf_keys.specs.declared.key.Key.{Key}
use Rattle.inf_keys.specs.Order.{owner_place, kind_place}
use Rattle.inf_values.specs.declared.reading.Class.{Class}
use Rattle.inf_values.specs.declared.reading.Class.TheVariants as class
use Rattle.inf_values.specs.declared.keys.Place.{Place}

abbrev pub is_host : Owner → Bool
is_host Host = true
is_host (Unit n) = false

-- the number of a part's row, or 0 where it stands in none
abbrev pub row_in : Part → ℕ
row_in (part.Single s) = 0
row_in (part.Property n f) = n
row_in (part.Provided n f) = n
row_in (part.Required n f) = n
row_in (part.Artifact n f) = n
row_in (part.Instruction p f) = 0

-- where the part of a key stands
abbrev pub place_of : Key → Place
place_of key = record { owner = owner_place key.owner; list = kind_place key.part; row = row_in key.part }

abbrev pub owner_at : ℕ → Owner
owner_at n = if n == 0 then Host else Unit (n - 1)

-- the key of a part of this owner
abbrev pub key_at : ℕ → Part → Key
key_at owner part = record { owner = owner_at owner; part = part }

-- how the value of a part is read
abbrev pub class_of : Part → Class
class_of (part.Single single.Version) = class.Version
class_of (part.Single single.TouchpointVersion) = class.Version
class_of (part.Single single.UpdateRange) = class.Range
class_of (part.Single single.Filter) = class.Filter
class_of (part.Provided n provided.Version) = class.Version
class_of (part.Required n required.Range) = class.Range
class_of (part.Required n required.Filter) = class.Filter
class_of (part.Artifact n artifact.Version) = class.Version
class_of _ = class.Plain
