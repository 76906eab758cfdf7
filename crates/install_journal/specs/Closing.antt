-- What closing the gate leaves.
use Rattle.std.specs.Prelude.{◌≡◌, ◌⊎◌, ℕ, List, [], None, Contains}
use Rattle.folder_core.specs.Crash.{IsImage}
use Rattle.folder_core.specs.Folder.{Map, Told, IsFormed, SameBut, set_at}
use Rattle.backup_store.specs.Held.{IsOpen as OpensGate}
use Rattle.backup_store.specs.Places.{gate_path}
use Rattle.install_journal.specs.Restored.{RestoresLike, RestoresTo}
use Rattle.install_journal.specs.declared.change.Change.{Change}
use Rattle.install_journal.specs.declared.fault.FinishFault.{FinishFault}
use Rattle.install_journal.specs.declared.fault.FinishFault.TheVariants.{Before, NoMemory, Closing}

-- Nothing was touched since the last sync.
pub record IsSynced (s : Told) : Type 0 where
  pub synced : s.synced ≡ s.now
  pub settled : s.touched ≡ []

-- The map is well formed, and differs from the other at the gate at most.
pub record IsButGate (before m : Map) : Type 0 where
  pub formed : IsFormed m
  pub elsewhere : SameBut gate_path before m

-- The gate alone is touched, if anything is, and has any node or none.
pub record TouchesGate (s t : Told) : Type 0 where
  pub synced : t.synced ≡ s.synced
  pub touched : (path : List (List ℕ)) → Contains t.touched path → path ≡ gate_path

-- All that stood was synced, and nothing but the gate was touched since.
pub record HasBegunClosing (s t : Told) : Type 0 where
  pub synced : t.synced ≡ s.now
  pub touched : (path : List (List ℕ)) → Contains t.touched path → path ≡ gate_path

-- The gate is closed, and all is synced.
pub record IsClosed (s t : Told) : Type 0 where
  pub now : t.now ≡ set_at s.now gate_path None
  pub synced : IsSynced t

-- The map restores to what the earlier one does, or to the installation of the earlier one.
abbrev pub OldOrNew : Map → Map → Type 0
OldOrNew before m = RestoresLike before m ⊎ RestoresTo before m

-- Nothing stands at the gate, and all is synced: so nothing stands there in any image.
pub record HasNoGate (s : Told) : Type 0 where
  pub gone : s.now gate_path ≡ None
  pub synced : IsSynced s

-- Some image has an open gate.
abbrev pub MayBeOpen : Told → Type 0
MayBeOpen s = (m : Map) × (IsImage s m × OpensGate m)

-- Where the fault hands the change back, P holds of it.
abbrev pub HandsBack : (Change → Type 0) → FinishFault → Type 0
HandsBack P (Before change) = P change
HandsBack P (NoMemory change) = P change
HandsBack P Closing = Unit {0}

-- The folder failed.
abbrev pub HasFailed : FinishFault → Type 0
HasFailed (Before change) = Unit {0}
HasFailed (NoMemory change) = ⊥
HasFailed Closing = Unit {0}

-- Where no memory was found, P holds.
abbrev pub OnNoMemory : Type 0 → FinishFault → Type 0
OnNoMemory P (Before change) = Unit {0}
OnNoMemory P (NoMemory change) = P
OnNoMemory P Closing = Unit {0}

-- Where the fault came when the gate was closed or after it, P holds.
abbrev pub OnClosing : Type 0 → FinishFault → Type 0
OnClosing P (Before change) = Unit {0}
OnClosing P (NoMemory change) = Unit {0}
OnClosing P Closing = P
