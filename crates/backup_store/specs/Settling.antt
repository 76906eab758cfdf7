-- What putting one file and a sync do. Only clauses of private functions cite this.
use Rattle.std.specs.Prelude.{◌≡◌, ℕ, List, [], ◌∷◌, Option, Some}
use Rattle.folder_core.specs.Folder.{Map, Told, SameBut, set_at}
use Rattle.folder_core.specs.Crash.{IsImage, Touches}
use Rattle.folder_core.specs.declared.node.Node.{Node}
use Rattle.folder_core.specs.declared.node.Node.TheVariants.{File}
use Rattle.folder_core.specs.declared.node.Touch.{Touch}
use Rattle.backup_store.specs.Entry.{IsEntry}
use Rattle.backup_store.specs.EntryText.{entry_text}
use Rattle.backup_store.specs.Held.{mark_text}
use Rattle.backup_store.specs.Places.{entry_path, mark_path}

-- What a crash may leave where the path has been touched too.
abbrev pub IsTouchedImage : List (List ℕ) → Told → Map → Type 0
IsTouchedImage path s m = IsImage (record s { touched = path ∷ s.touched }) m

-- The node stands at the path, and all is synced.
pub record IsSettled (touch : Touch) (s t : Told) : Type 0 where
  pub now : t.now ≡ set_at s.now touch.path touch.node
  pub synced : t.synced ≡ t.now
  pub touched : t.touched ≡ []

-- The path may have been touched, and nothing was synced.
pub record IsUnsettled (touch : Touch) (s t : Told) : Type 0 where
  pub elsewhere : SameBut touch.path s.now t.now
  pub touches : Touches touch.path s t

-- the entry's file
abbrev pub entry_touch : ℕ → List (List ℕ) → Option Node → Touch
entry_touch k path before = record { path = entry_path k; node = Some (File 420 (entry_text path before)) }

-- the entry's mark
abbrev pub mark_touch : ℕ → Touch
mark_touch k = record { path = mark_path k; node = Some (File 420 mark_text) }

-- The entry's file has been written and synced.
pub record IsEntered (s : Told) (k : ℕ) (path : List (List ℕ)) (t : Told) : Type 0 where
  pub entry : IsEntry path (s.now path)
  pub settled : IsSettled (entry_touch k path (s.now path)) s t
