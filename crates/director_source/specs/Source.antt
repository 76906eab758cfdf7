-- What a source gives, folder by folder.
use Rattle.std.specs.Prelude.{◌≡◌, ℕ, ◌+◌, nat_le, nat_lt, nat_eq, ◌||◌, List, [], ◌∷◌, ◌++◌, codes, length, Option, Some, None, Result, Ok, Err, if◌then◌else◌}
use Rattle.std.specs.Cmp.Lexicographic.{pointwise}
use Rattle.folder_core.specs.Name.{AreRising, AreThose}
use Rattle.folder_core.specs.Tree.{Files, HasBelow}
use Rattle.folder_core.specs.declared.node.After.TheVariants.{Unchanged}
use Rattle.props_reader.specs.PairsOf.{pairs_of}
use Rattle.unit_model.specs.declared.unit.Unit.{Unit}
use Rattle.inf_reader.specs.Readings.{Readings, ReadsAll}
use Rattle.inf_reader.specs.UnitsOf.{has_name, units_of}
use Rattle.inf_reader.specs.declared.fault.InfRefusal.{InfRefusal}
use Rattle.inf_reader.specs.declared.fault.InfRefusal.TheVariants as refusals
use Rattle.director_words.specs.declared.limit.LimitName.TheVariants.{Units, Requirements, InfBytes, SourceBytes}
use Rattle.director_words.specs.declared.source_why.SourceWhy.TheVariants.{Line, Inf}
use Rattle.director_words.specs.declared.status.Status.{Status}
use Rattle.director_words.specs.declared.status.Status.TheVariants.{SourceRefused, Limit, NoMemory}

-- A file stands at this name directly below the root, or below it.
abbrev pub IsChild : Files → List ℕ → Type 0
IsChild files name = HasBelow files (name ∷ [])

-- the folders of a source: what stands directly below its root, in rising order
pub record AreFolders (files : Files) (folders : List (List ℕ)) : Type 0 where
  pub rising : AreRising folders
  pub those : AreThose (IsChild files) folders

-- the first of two that is there
abbrev first_of : {T : Type 0} → Option T → Option T → Option T
first_of None second = second
first_of (Some x) second = Some x

-- the description of a folder: its `p2.inf`, or else its `META-INF/p2.inf`; none of what holds the artifacts
abbrev pub description_of : Files → List ℕ → Option (List ℕ)
description_of files folder =
    if pointwise nat_eq folder (codes "artifacts") || pointwise nat_eq folder (codes "artifacts.sha256")
    then None
    else first_of (files (folder ∷ codes "p2.inf" ∷ [])) (files (folder ∷ codes "META-INF" ∷ codes "p2.inf" ∷ []))

infixl 10 ◌>>=◌
abbrev pub ◌>>=◌ : {A B : Type 0} → Result A Status → (A → Result B Status) → Result B Status
(Ok x) >>= f = f x
(Err status) >>= f = Err status

-- how many bytes the descriptions have with this one
unfoldable pub counted : ℕ → List ℕ → Result ℕ Status
counted before bytes =
    if nat_lt 1048576 (length bytes) then Err (Limit InfBytes 1048576)
    else (if nat_lt 67108864 (before + length bytes) then Err (Limit SourceBytes 67108864) else Ok (before + length bytes))

-- the pairs, or the line of the first escape that is refused
abbrev pub on_line : {A : Type 0} → List ℕ → Result A ℕ → Result A Status
on_line folder (Ok pairs) = Ok pairs
on_line folder (Err line) = Err (SourceRefused folder (Line line))

-- Too many requirements pass a limit. A folder is refused for all else.
abbrev pub refusal_status : List ℕ → InfRefusal → Status
refusal_status folder (refusals.TooManyRequirements name) = Limit Requirements 1024
refusal_status folder refusals.NoMemory = NoMemory Unchanged
refusal_status folder refusal = SourceRefused folder (Inf refusal)

abbrev pub on_key : {A : Type 0} → List ℕ → Result A InfRefusal → Result A Status
on_key folder (Ok units) = Ok units
on_key folder (Err refusal) = Err (refusal_status folder refusal)

-- the units that the bytes of a folder's description describe
unfoldable pub described : Readings → List ℕ → List ℕ → Result (List Unit) Status
described read folder bytes = on_line folder (pairs_of bytes) >>= λ pairs. on_key folder (units_of read folder pairs)

-- The units with more behind them, at most 65,536. The first of a name wins.
unfoldable pub added : List Unit → List Unit → Result (List Unit) Status
added units [] = Ok units
added units (unit ∷ more) =
    if has_name units unit.name then added units more
    else (if nat_le 65536 (length units) then Err (Limit Units 65536) else added (units ++ unit ∷ []) more)

-- what was read of some folders: how many bytes their descriptions have, and their units
pub record Gathered : Type 0 where
  pub bytes : ℕ
  pub units : List Unit

-- the same with one description more
unfoldable pub with_description : Readings → List ℕ → Gathered → List ℕ → Result Gathered Status
with_description read folder before bytes =
    counted before.bytes bytes >>= λ total. described read folder bytes >>= λ more. added before.units more >>= λ units.
    Ok (record { bytes = total; units = units })

-- A folder without a description is passed over.
abbrev pub with_found : Readings → List ℕ → Gathered → Option (List ℕ) → Result Gathered Status
with_found read folder before None = Ok before
with_found read folder before (Some bytes) = with_description read folder before bytes

-- the same with more folders
unfoldable pub gathered : Readings → Files → Gathered → List (List ℕ) → Result Gathered Status
gathered read files before [] = Ok before
gathered read files before (folder ∷ folders) =
    with_found read folder before (description_of files folder) >>= λ now. gathered read files now folders

abbrev pub nothing_gathered : Gathered
nothing_gathered = record { bytes = 0; units = [] }

-- the units of the folders, or the first refusal
abbrev pub source_units : Readings → Files → List (List ℕ) → Result (List Unit) Status
source_units read files folders = gathered read files nothing_gathered folders >>= λ all. Ok all.units

-- The source gives these units, or is refused so.
pub record SourceGives (files : Files) (outcome : Result (List Unit) Status) : Type 0 where
  pub read : Readings
  pub reads : ReadsAll read
  pub folders : List (List ℕ)
  pub are_folders : AreFolders files folders
  pub gives : source_units read files folders ≡ outcome
