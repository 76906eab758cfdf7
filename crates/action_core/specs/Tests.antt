-- The tests that actions have in common. Each gives its refusal, or None where it passes.
use Rattle.std.specs.Prelude.{ℕ, nat_lt, Bool, true, false, List, [], ◌∷◌, ◌++◌, length, take, Option, Some, None, if◌then◌else◌}
use Rattle.folder_core.specs.Folder.{Map}
use Rattle.folder_core.specs.Path.{path_eqb, parent}
use Rattle.folder_core.specs.declared.node.Node.{Node}
use Rattle.folder_core.specs.declared.node.Node.TheVariants.{File, Dir, Link}
use Rattle.action_core.specs.Places.{Site}
use Rattle.action_core.specs.declared.fault.ActionFault.{ActionFault}
use Rattle.action_core.specs.declared.fault.ActionFault.TheVariants.{TooDeep, InstallFolder, ThroughLink, NoParent, NotThere, Present, NotDirectory, NotFile}

-- the first refusal of tests in their order
abbrev pub first_of : List (Option ActionFault) → Option ActionFault
first_of [] = None
first_of (Some fault ∷ tests) = Some fault
first_of (None ∷ tests) = first_of tests

abbrev pub is_dir : Option Node → Bool
is_dir (Some (File mode blob)) = false
is_dir (Some Dir) = true
is_dir (Some (Link target)) = false
is_dir None = false

abbrev pub is_link : Option Node → Bool
is_link (Some (File mode blob)) = false
is_link (Some Dir) = false
is_link (Some (Link target)) = true
is_link None = false

abbrev pub is_file : Option Node → Bool
is_file (Some (File mode blob)) = true
is_file (Some Dir) = false
is_file (Some (Link target)) = false
is_file None = false

-- over 64 names
unfoldable pub too_deep : List (List ℕ) → Option ActionFault
too_deep path = if nat_lt 64 (length path) then Some (TooDeep (take 64 path)) else None

-- the folder of the profile itself
unfoldable pub install_folder : Site → List (List ℕ) → Option ActionFault
install_folder site path = if path_eqb path site.install then Some (InstallFolder path) else None

-- the first link from a path on, on the way that these names lead
abbrev pub link_from : Map → List (List ℕ) → List (List ℕ) → Option (List (List ℕ))
link_from m path [] = None
link_from m path (name ∷ names) = if is_link (m path) then Some path else link_from m (path ++ name ∷ []) names

-- the first link above a path
unfoldable pub link_above : Map → List (List ℕ) → Option (List (List ℕ))
link_above m path = link_from m [] path

abbrev pub through : Option (List (List ℕ)) → Option ActionFault
through None = None
through (Some link) = Some (ThroughLink link)

unfoldable pub through_link : Map → List (List ℕ) → Option ActionFault
through_link m path = through (link_above m path)

-- the parent isn't a directory
unfoldable pub no_parent : Map → List (List ℕ) → Option ActionFault
no_parent m path = if is_dir (m (parent path)) then None else Some (NoParent path)

-- The tests on the way to a path that is to be changed, without the one on its parent.
unfoldable pub way : Site → Map → List (List ℕ) → Option ActionFault
way site m path = first_of (too_deep path ∷ install_folder site path ∷ through_link m path ∷ [])

-- The tests on each path that is to be changed.
unfoldable pub common : Site → Map → List (List ℕ) → Option ActionFault
common site m path = first_of (way site m path ∷ no_parent m path ∷ [])

abbrev pub not_there : Option Node → List (List ℕ) → Option ActionFault
not_there None path = Some (NotThere path)
not_there (Some node) path = None

abbrev pub present : Option Node → List (List ℕ) → Option ActionFault
present None path = None
present (Some node) path = Some (Present path)

abbrev pub not_directory : Option Node → List (List ℕ) → Option ActionFault
not_directory node path = if is_dir node then None else Some (NotDirectory path)

abbrev pub not_file : Option Node → List (List ℕ) → Option ActionFault
not_file node path = if is_file node then None else Some (NotFile path)
