-- The images of a folder in memory that are chosen node by node.
use Rattle.std.specs.Prelude.{◌≡◌, ℕ, ◌<◌, List, [], length, Result, Ok, Err, All, Contains, fold, slice_index_or, ⊤}
use Rattle.folder_core.specs.Folder.{Map, Told, IsFormed, set_at}
use Rattle.folder_core.specs.declared.node.Touch.{Touch}
use Rattle.folder_memory.specs.declared.image.ImageFault.{ImageFault}
use Rattle.folder_memory.specs.declared.image.ImageFault.TheVariants.{NotTouched, NotWellFormed, NoMemory}

-- the map where each of these is set in turn
abbrev pub set_all : Map → List Touch → Map
set_all m choice = fold (λ m touch. set_at m touch.path touch.node) m choice

-- the synced map with what was chosen: of two choices for one path the later counts
abbrev pub chosen_of : Told → List Touch → Map
chosen_of s choice = set_all s.synced choice

-- Each choice is for a path that was touched since the last sync.
abbrev pub AreTouched : List (List (List ℕ)) → List Touch → Type 0
AreTouched touched choice = All (λ touch. Contains touched touch.path) choice

-- The choice at the place is the first for a path that wasn't touched.
pub record IsFirstUntouched (touched : List (List (List ℕ))) (choice : List Touch) (place : ℕ) : Type 0 where
  pub within : place < length choice
  pub earlier : (k : ℕ) (d : Touch) → k < place → Contains touched (slice_index_or choice k d).path
  pub here : (d : Touch) → ¬ (Contains touched (slice_index_or choice place d).path)

-- The map stands, and it stood at the last sync, since which nothing was touched.
pub record BeginsWith (s : Told) (m : Map) : Type 0 where
  pub now : s.now ≡ m
  pub synced : s.synced ≡ m
  pub touched : s.touched ≡ []

-- The choices are refused exactly where one is for a path that wasn't touched, or else where what they make isn't well
-- formed.
abbrev pub Admits : {T : Type 0} → Told → List Touch → Result T ImageFault → Type 0
Admits s choice (Ok image) = AreTouched s.touched choice × IsFormed (chosen_of s choice)
Admits s choice (Err (NotTouched place)) = IsFirstUntouched s.touched choice place
Admits s choice (Err NotWellFormed) = AreTouched s.touched choice × ¬ (IsFormed (chosen_of s choice))
Admits s choice (Err NoMemory) = ⊤

-- The choices are for touched paths, and what was chosen there, or else was synced there, is what the map has there.
pub record IsChoiceOf (s : Told) (m : Map) (choice : List Touch) : Type 0 where
  pub are_touched : AreTouched s.touched choice
  pub nodes : (path : List (List ℕ)) → Contains s.touched path → chosen_of s choice path ≡ m path

-- an answer that has P, but for want of memory
abbrev pub OkOrNoMemory : {T : Type 0} → (T → Type 0) → Result T ImageFault → Type 0
OkOrNoMemory P (Ok image) = P image
OkOrNoMemory P (Err (NotTouched place)) = ⊥
OkOrNoMemory P (Err NotWellFormed) = ⊥
OkOrNoMemory P (Err NoMemory) = ⊤
