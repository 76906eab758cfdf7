-- The host that a folder's name gives.
use Rattle.std.specs.Prelude.{ℕ, ◌==◌, ◌&&◌, not, nat_le, Bool, true, false, List, [], ◌∷◌, ◌++◌, length, Option, Some, None, codes, if◌then◌else◌}
use Rattle.std.specs.List.{list_any, list_all}
use Rattle.std.specs.Str.{bytes_eq}
use Rattle.osgi_version.specs.declared.version.Version.{Version}
use Rattle.osgi_version.specs.VersionText.{is_white}
use Rattle.unit_model.specs.declared.name.UnitName.{UnitName}
use Rattle.unit_model.specs.UnitId.{is_id_byte}
use Rattle.inf_values.specs.Readings.{Readings}

abbrev pub is_empty : List ℕ → Bool
is_empty [] = true
is_empty (b ∷ text) = false

-- what may name a unit, as a test
unfoldable pub is_id : List ℕ → Bool
is_id id =
    not (is_empty id) && nat_le (length id) 140 && list_all is_id_byte id
    && not (bytes_eq id (codes ".")) && not (bytes_eq id (codes ".."))

-- not empty, and without white space
abbrev pub stands_alone : List ℕ → Bool
stands_alone text = not (length text == 0) && not (list_any is_white text)

-- the version that stands alone behind a `_` at the front
abbrev pub version_at : Readings → List ℕ → Option Version
version_at read [] = None
version_at read (b ∷ text) = if (b == 95) && stands_alone text then read.version text else None

-- the name of this id and version, where the id has the form of one
abbrev pub named : List ℕ → Version → Option UnitName
named id version = if is_id id then Some (record { id = id; version = version }) else None

abbrev pub named_by : List ℕ → Option Version → Option UnitName → Option UnitName
named_by before None later = later
named_by before (Some version) later = named before version

-- the host, where these bytes stand before the rest of the name and no version behind a `_` of theirs
unfoldable pub host_from : Readings → List ℕ → List ℕ → Option UnitName
host_from read before [] = None
host_from read before (b ∷ rest) =
    named_by before (version_at read (b ∷ rest)) (host_from read (before ++ b ∷ []) rest)

-- An id, `_` and a version: the first `_` counts behind which a version stands alone, and what stands before it has
-- to be a valid id.
abbrev pub host_of : Readings → List ℕ → Option UnitName
host_of read folder = host_from read [] folder
