-- What the first install into an empty folder leaves.
use Rattle.std.specs.Prelude.{ℕ, List, [], ◌∷◌, ◌++◌, codes, Some}
use Rattle.folder_core.specs.declared.node.Node.TheVariants.{File, Dir}
use Rattle.folder_core.specs.declared.node.Touch.{Touch}
use Rattle.unit_model.specs.declared.unit.Unit.{Unit}
use Rattle.director_core.specs.StateText.{State, state_text}

-- the profile's first state: the unit is its one root and its one unit
unfoldable pub first_state : List ℕ → Unit → State
first_state profile unit = record { profile = profile; number = 1; roots = unit.name ∷ []; units = unit ∷ [] }

abbrev pub directory : List (List ℕ) → Touch
directory path = record { path = path; node = Some Dir }

-- a file that its owner writes and all read
abbrev pub file : List (List ℕ) → List ℕ → Touch
file path bytes = record { path = path; node = Some (File 420 bytes) }

-- the directories of the first profile, in the order in which they are made
abbrev pub directories : List ℕ → List Touch
directories profile =
    directory (codes "profiles" ∷ [])
    ∷ directory (codes "profiles" ∷ profile ∷ [])
    ∷ directory (codes "installs" ∷ [])
    ∷ directory (codes "installs" ∷ profile ∷ [])
    ∷ directory (codes "pool" ∷ [])
    ∷ []

-- the directories, then the file of the state, then the number of the current one
abbrev pub first_touches : List ℕ → Unit → List Touch
first_touches profile unit =
    directories profile
    ++ file (codes "profiles" ∷ profile ∷ codes "1.state" ∷ []) (state_text (first_state profile unit))
    ∷ file (codes "profiles" ∷ profile ∷ codes "current" ∷ []) (49 ∷ 10 ∷ [])
    ∷ []
