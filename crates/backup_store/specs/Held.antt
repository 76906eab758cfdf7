-- Which entries a folder's map holds.
use Rattle.std.specs.Prelude.{◌≡◌, ℕ, List, [], ◌∷◌, ◌++◌, codes, Option, Some}
use Rattle.folder_core.specs.Folder.{Map}
use Rattle.folder_core.specs.declared.node.Node.{Node}
use Rattle.folder_core.specs.declared.node.Node.TheVariants.{File}
use Rattle.backup_store.specs.Entry.{IsEntry}
use Rattle.backup_store.specs.EntryText.{entry_text}
use Rattle.backup_store.specs.Places.{entry_path, mark_path, gate_path, IsOutside}

-- A file with these bytes stands there, of any mode.
abbrev pub IsFileOf : List ℕ → Option Node → Type 0
IsFileOf bytes node = (mode : ℕ) × (node ≡ Some (File mode bytes))

-- what the mark of an entry has
abbrev pub mark_text : List ℕ
mark_text = codes "ok" ++ 10 ∷ []

-- what an open gate has
abbrev pub gate_text : List ℕ
gate_text = codes "open" ++ 10 ∷ []

-- The entry K counts.
abbrev pub Counts : Map → ℕ → Type 0
Counts m k = IsFileOf mark_text (m (mark_path k))

abbrev pub IsOpen : Map → Type 0
IsOpen m = IsFileOf gate_text (m gate_path)

-- The file of the entry K is the text of this entry.
pub record HoldsEntry (m : Map) (k : ℕ) (path : List (List ℕ)) (before : Option Node) : Type 0 where
  pub entry : IsEntry path before
  pub file : IsFileOf (entry_text path before) (m (entry_path k))

-- It is, and its path isn't the journal's own.
pub record CanRestore (m : Map) (k : ℕ) (path : List (List ℕ)) (before : Option Node) : Type 0 where
  pub holds : HoldsEntry m k path before
  pub outside : IsOutside path

-- There is nothing that the entry K could put back: its file is no entry's text, or its path is the journal's own.
abbrev pub IsDamaged : Map → ℕ → Type 0
IsDamaged m k = (path : List (List ℕ)) (before : Option Node) → ¬ (CanRestore m k path before)
