-- Touches that are done one after the other, and the entries that they need.
use Rattle.std.specs.Prelude.{◌≢◌, ℕ, List, [], ◌∷◌, IfSome, None, slice_index_or, ⊤}
use Rattle.std.specs.List.{AllByRecursion}
use Rattle.folder_core.specs.Folder.{Map, CanSet, set_at}
use Rattle.folder_core.specs.Node.{IsNode, IsSmallAt}
use Rattle.folder_core.specs.declared.node.Touch.{Touch}
use Rattle.backup_store.specs.Places.{IsOutside}
use Rattle.backup_store.specs.declared.entry.Entry.{Entry}

-- the map where each of these is set in turn
abbrev pub set_in_turn : List Touch → Map → Map
set_in_turn [] m = m
set_in_turn (touch ∷ touches) m = set_in_turn touches (set_at m touch.path touch.node)

-- the entry of what stands at a path
abbrev pub entry_of : Map → List (List ℕ) → Entry
entry_of m path = record { path = path; before = m path }

-- for each touch the entry of what stands at its path when its turn comes
abbrev pub entries_in_turn : List Touch → Map → List Entry
entries_in_turn [] m = []
entries_in_turn (touch ∷ touches) m = entry_of m touch.path ∷ entries_in_turn touches (set_at m touch.path touch.node)

-- Such a path may be touched with such a node.
pub record IsTouch (touch : Touch) : Type 0 where
  pub not_root : touch.path ≢ []
  pub outside : IsOutside touch.path
  pub node : IfSome touch.node IsNode
  pub small : IfSome touch.node (IsSmallAt touch.path)

abbrev pub AreTouches : List Touch → Type 0
AreTouches touches = AllByRecursion IsTouch touches

-- Each can be set once those before it are.
abbrev pub CanSetInTurn : List Touch → Map → Type 0
CanSetInTurn [] m = ⊤
CanSetInTurn (touch ∷ touches) m = CanSet m touch.path × CanSetInTurn touches (set_at m touch.path touch.node)

abbrev pub no_entry : Entry
no_entry = record { path = []; before = None }

-- the entry at a place, from 0
abbrev pub entry_at : List Entry → ℕ → Entry
entry_at entries place = slice_index_or entries place no_entry
