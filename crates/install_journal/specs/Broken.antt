-- What a recovery meets where there is no installation to restore, and the path that it names.
use Rattle.std.specs.Prelude.{◌≡◌, ◌≢◌, ◌⊎◌, ℕ, ◌<◌, ◌≤◌, List, [], Option, Some, IsSome}
use Rattle.folder_core.specs.Folder.{Map}
use Rattle.folder_core.specs.Path.{IsBelow, parent}
use Rattle.folder_core.specs.declared.node.Node.{Node}
use Rattle.folder_core.specs.declared.node.Node.TheVariants.{Dir}
use Rattle.backup_store.specs.Held.{Counts, CanRestore, IsOpen as OpensGate}
use Rattle.backup_store.specs.Places.{IsOutside, entry_path}
use Rattle.backup_store.specs.declared.entry.Entry.{Entry}
use Rattle.install_journal.specs.Firsts.{IsFirst}
use Rattle.install_journal.specs.Overlay.{overlay, Covers}
use Rattle.install_journal.specs.Restored.{AreCounted}

-- The entry counts, and so does each before it.
pub record IsReached (m : Map) (number : ℕ) : Type 0 where
  pub from_one : 0 < number
  pub most : number ≤ 1000000
  pub counts : (earlier : ℕ) → 0 < earlier → earlier ≤ number → Counts m earlier

-- The entry is of this path and this node. The path is neither the root nor the journal's own.
pub record IsSound (m : Map) (number : ℕ) (path : List (List ℕ)) (before : Option Node) : Type 0 where
  pub restores : CanRestore m number path before
  pub not_root : path ≢ []

abbrev pub IsUnsound : Map → ℕ → Type 0
IsUnsound m number = (path : List (List ℕ)) (before : Option Node) → ¬ (IsSound m number path before)

-- It is the first entry that counts and that can't be put back.
pub record IsFirstUnsound (m : Map) (number : ℕ) : Type 0 where
  pub reached : IsReached m number
  pub unsound : IsUnsound m number
  pub earlier : (other : ℕ) → 0 < other → other < number → ¬ (IsUnsound m other)

-- All entries that count, each of a path that is neither the root nor the journal's own.
pub record AreSound (m : Map) (entries : List Entry) : Type 0 where
  pub counted : AreCounted m entries
  pub not_root : ¬ (Covers entries [])
  pub outside : (path : List (List ℕ)) → Covers entries path → IsOutside path

-- Something stands there without an entry, below a path that has one.
pub record IsUncovered (entries : List Entry) (m : Map) (path : List (List ℕ)) : Type 0 where
  pub stands : IsSome (m path)
  pub uncovered : ¬ (Covers entries path)
  pub above : List (List ℕ)
  pub covered : Covers entries above
  pub below : IsBelow above path

-- Something is to stand there, where its parent isn't to be a directory.
pub record IsLoose (entries : List Entry) (m : Map) (path : List (List ℕ)) : Type 0 where
  pub not_root : path ≢ []
  pub stands : IsSome (overlay entries m path)
  pub parent : overlay entries m (parent path) ≢ Some Dir

-- These entries can't be put back, and the path shows why.
abbrev pub ShowsUnfit : List Entry → Map → List (List ℕ) → Type 0
ShowsUnfit entries m path = IsFirst (IsUncovered entries m) path
    ⊎ (((other : List (List ℕ)) → ¬ (IsUncovered entries m other)) × IsFirst (IsLoose entries m) path)

-- The path is the file of the first entry that counts and that can't be put back.
abbrev pub NamesUnsound : Map → List (List ℕ) → Type 0
NamesUnsound m path = (number : ℕ) × (IsFirstUnsound m number × (path ≡ entry_path number))

-- The entries that count can't be put back. The path is the file of the first that is no entry, else the first path without
-- an entry at which something stands below one that has an entry, else the first that would have no directory above it.
abbrev pub NamesDamage : Map → List (List ℕ) → Type 0
NamesDamage m path = NamesUnsound m path ⊎ ((entries : List Entry) × (AreSound m entries × ShowsUnfit entries m path))

-- The gate is open, and the entries that count can't be put back, as the path shows.
pub record IsBroken (m : Map) (path : List (List ℕ)) : Type 0 where
  pub opened : OpensGate m
  pub names : NamesDamage m path
