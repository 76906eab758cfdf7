-- What a folder in memory tells, by the record of its calls.
use Rattle.std.specs.Prelude.{◌≡◌, ◌⊎◌, ℕ, ◌+◌, ◌≤◌, List, [], ◌∷◌, ◌++◌, length, take, Some, None, fold}
use Rattle.folder_core.specs.Folder.{Map, Told, set_at}
use Rattle.folder_core.specs.Crash.{IsImage}
use Rattle.folder_core.specs.declared.node.Node.TheVariants.{Dir}
use Rattle.folder_memory.specs.declared.history.Event.{Event}
use Rattle.folder_memory.specs.declared.history.Event.TheVariants.{Set, Sync}

-- a folder with nothing in it
abbrev pub only_root : Map
only_root [] = Some Dir
only_root (name ∷ path) = None

abbrev pub first_state : Told
first_state = record { now = only_root; synced = only_root; touched = []; moment = 0 }

abbrev pub after_event : Told → Event → Told
after_event s (Set touch) =
    record { now = set_at s.now touch.path touch.node; synced = s.synced; touched = s.touched ++ touch.path ∷ []; moment = s.moment + 1 }
after_event s Sync = record { now = s.now; synced = s.now; touched = []; moment = s.moment + 1 }

-- what is told after these calls
abbrev pub state_of : List Event → Told
state_of events = fold after_event first_state events

-- The map is an image at a moment after so many calls, or at a later one.
abbrev pub LeftSince : List Event → ℕ → Map → Type 0
LeftSince events moment m = (k : ℕ) × (moment ≤ k) × (k ≤ length events) × IsImage (state_of (take k events)) m

-- A mark stands behind the calls, or none was needed.
abbrev pub MaySync : List Event → List Event → Type 0
MaySync old new = (new ≡ old ++ Sync ∷ []) ⊎ (new ≡ old)
