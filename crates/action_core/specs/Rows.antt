-- What each action does, for a map in which something stands at its places: its tests in their order, and its steps
-- where none of them refuses.
use Rattle.std.specs.Prelude.{ℕ, ◌&&◌, not, Bool, List, [], ◌∷◌, ◌++◌, length, drop, map, filter, reverse, Option, Some, None, Result, Ok, Err, if◌then◌else◌}
use Rattle.std.specs.List.{list_any}
use Rattle.folder_core.specs.Folder.{Map}
use Rattle.folder_core.specs.Path.{path_eqb}
use Rattle.folder_core.specs.declared.node.Node.{Node}
use Rattle.folder_core.specs.declared.node.Node.TheVariants.{File, Dir, Link}
use Rattle.folder_core.specs.declared.node.Touch.{Touch}
use Rattle.action_core.specs.Places.{Site}
use Rattle.action_core.specs.Standing.{is_at_or_below}
use Rattle.action_core.specs.Tests.{first_of, is_dir, is_link, too_deep, through_link, way, common, not_there, present, not_directory, not_file}
use Rattle.action_core.specs.declared.fault.ActionFault.{ActionFault}
use Rattle.action_core.specs.declared.fault.ActionFault.TheVariants.{Present, NotEmpty, NotFile, IntoItself}
use Rattle.action_core.specs.declared.step.Step.{Step}
use Rattle.action_core.specs.declared.step.Step.TheVariants.{Set, Note}

-- the steps, where no test refuses
abbrev pub unless : Option ActionFault → List Step → Result (List Step) ActionFault
unless None steps = Ok steps
unless (Some fault) steps = Err fault

-- A directory that stands is left as it is.
abbrev pub mkdir : Site → Map → List (List ℕ) → Result (List Step) ActionFault
mkdir site m path =
    if is_dir (m path)
    then unless (too_deep path) []
    else unless (first_of (common site m path ∷ present (m path) path ∷ [])) (Set path (Some Dir) ∷ [])

-- Something else than the path itself is among what stands at or below it.
abbrev pub has_below : List (List ℕ) → List Touch → Bool
has_below path under = list_any (λ touch. not (path_eqb touch.path path)) under

abbrev pub not_empty : List (List ℕ) → List Touch → Option ActionFault
not_empty path under = if has_below path under then Some (NotEmpty path) else None

abbrev pub rmdir : Site → Map → List Touch → List (List ℕ) → Result (List Step) ActionFault
rmdir site m under path =
    unless (first_of (common site m path ∷ not_there (m path) path ∷ not_directory (m path) path ∷ not_empty path under ∷ [])) (Set path None ∷ [])

-- All at or below the path goes, the deepest first: what lies below a path comes behind it in the order of paths.
abbrev pub remove : Site → Map → List Touch → List (List ℕ) → Result (List Step) ActionFault
remove site m under path = unless (way site m path) (map (λ touch. Set touch.path None) (reverse under))

abbrev pub with_mode : ℕ → Option Node → Option Node
with_mode mode (Some (File old blob)) = Some (File mode blob)
with_mode mode (Some Dir) = Some Dir
with_mode mode (Some (Link target)) = Some (Link target)
with_mode mode None = None

abbrev pub chmod : Site → Map → List (List ℕ) → ℕ → Result (List Step) ActionFault
chmod site m path mode =
    unless (first_of (way site m path ∷ not_there (m path) path ∷ not_file (m path) path ∷ [])) (Set path (with_mode mode (m path)) ∷ [])

abbrev pub ln : Site → Map → List (List ℕ) → List ℕ → Result (List Step) ActionFault
ln site m path target =
    unless (first_of (common site m path ∷ present (m path) path ∷ [])) (Set path (Some (Link target)) ∷ [])

-- the path below the source as it is below the target
abbrev pub moved : List (List ℕ) → List (List ℕ) → List (List ℕ) → List (List ℕ)
moved source target path = target ++ drop (length source) path

-- a link isn't copied
abbrev pub link_as_source : Option Node → List (List ℕ) → Option ActionFault
link_as_source node path = if is_link node then Some (NotFile path) else None

-- The source is there to be copied.
unfoldable pub copy_source : Map → List (List ℕ) → Option ActionFault
copy_source m source = first_of (through_link m source ∷ not_there (m source) source ∷ link_as_source (m source) source ∷ [])

-- A file takes the place of nothing, or of a file or link where it overwrites.
abbrev pub file_target : Bool → Option Node → List (List ℕ) → Option ActionFault
file_target overwrite None target = None
file_target overwrite (Some Dir) target = Some (NotFile target)
file_target overwrite (Some (File mode blob)) target = if overwrite then None else Some (Present target)
file_target overwrite (Some (Link link)) target = if overwrite then None else Some (Present target)

abbrev pub into_itself : List (List ℕ) → List (List ℕ) → Option ActionFault
into_itself source target =
    if is_at_or_below source target && not (path_eqb source target) then Some (IntoItself target) else None

abbrev pub too_deep_from : List (List ℕ) → List (List ℕ) → List Touch → Option ActionFault
too_deep_from source target under = first_of (map (λ touch. too_deep (moved source target touch.path)) under)

abbrev pub copied_set : List (List ℕ) → List (List ℕ) → Touch → Step
copied_set source target touch = Set (moved source target touch.path) touch.node

abbrev pub copy_directory : Map → List Touch → List (List ℕ) → List (List ℕ) → Result (List Step) ActionFault
copy_directory m under source target =
    unless (first_of (into_itself source target ∷ present (m target) target ∷ too_deep_from source target under ∷ []))
    (map (copied_set source target) under ++ Note (map (λ touch. moved source target touch.path) under) ∷ [])

abbrev pub copy_file : Map → List (List ℕ) → List (List ℕ) → Bool → Result (List Step) ActionFault
copy_file m source target overwrite =
    unless (file_target overwrite (m target) target) (Set target (m source) ∷ Note (target ∷ []) ∷ [])

abbrev pub or_refused : Option ActionFault → Result (List Step) ActionFault → Result (List Step) ActionFault
or_refused None result = result
or_refused (Some fault) result = Err fault

-- `under` is what stands at or below the source.
abbrev pub copy : Site → Map → List Touch → List (List ℕ) → List (List ℕ) → Bool → Result (List Step) ActionFault
copy site m under source target overwrite =
    or_refused (first_of (copy_source m source ∷ common site m target ∷ []))
    (if is_dir (m source) then copy_directory m under source target else copy_file m source target overwrite)

abbrev pub is_at : List (List ℕ) → Touch → Bool
is_at path touch = path_eqb touch.path path

abbrev pub all_but : List (List ℕ) → List Touch → List Touch
all_but path under = filter (λ touch. not (path_eqb touch.path path)) under

-- something stands below the path
abbrev pub has_child : List (List ℕ) → List Touch → Bool
has_child path under = list_any (λ touch. is_at_or_below path touch.path && not (path_eqb touch.path path)) under

-- It stands, and nothing stands below it.
abbrev pub can_go : List (List ℕ) → List Touch → Bool
can_go path under = list_any (is_at path) under && not (has_child path under)

-- Each path goes when its turn comes, where it can. `under` is what stands then.
abbrev pub cleaned : List (List (List ℕ)) → List Touch → List Step
cleaned [] under = []
cleaned (path ∷ paths) under =
    if can_go path under then Set path None ∷ cleaned paths (all_but path under) else cleaned paths under

-- `under` is what stands at or below the target.
abbrev pub cleanupcopy : List Touch → List (List (List ℕ)) → Result (List Step) ActionFault
cleanupcopy under noted = Ok (cleaned (reverse noted) under ++ Note [] ∷ [])
