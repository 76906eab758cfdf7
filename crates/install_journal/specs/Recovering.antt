-- What a recovery does.
use Rattle.std.specs.Prelude.{◌≡◌, ◌⊎◌, ℕ, List, length, None}
use Rattle.folder_core.specs.Crash.{IsImage}
use Rattle.folder_core.specs.Folder.{Map, Told, set_at}
use Rattle.folder_core.specs.declared.node.After.TheVariants.{Unchanged}
use Rattle.backup_store.specs.Held.{IsOpen as OpensGate}
use Rattle.backup_store.specs.Places.{gate_path}
use Rattle.backup_store.specs.declared.entry.Entry.{Entry}
use Rattle.install_journal.specs.Overlay.{overlay}
use Rattle.install_journal.specs.Restored.{AreCounted, CanOverlay, IsRestored, IsSettled}
use Rattle.install_journal.specs.Tidy.{SameForeign}
use Rattle.install_journal.specs.declared.fault.JournalFault.{JournalFault}
use Rattle.install_journal.specs.declared.fault.JournalFault.TheVariants.{Failed, Damaged, NoMemory}
use Rattle.install_journal.specs.declared.recovering.Recovered.{Recovered}
use Rattle.install_journal.specs.declared.recovering.Recovered.TheVariants.{Nothing, Entries}

-- All entries that count are put back, so many as there are, and the gate is gone.
pub record PutsAllBack (so_many : ℕ) (before after : Map) : Type 0 where
  pub entries : List Entry
  pub counted : AreCounted before entries
  pub can_overlay : CanOverlay entries before
  pub count : so_many ≡ length entries
  pub now : after ≡ set_at (overlay entries before) gate_path None

-- Where the gate was closed nothing is changed, and else all is put back.
abbrev pub Recovers : Recovered → Map → Map → Type 0
Recovers Nothing before after = (¬ (OpensGate before)) × (after ≡ before)
Recovers (Entries count) before after = OpensGate before × PutsAllBack count before after

-- There is an installation that the map before restores to. It stands now, and is what each image restores to.
abbrev pub SettlesWhatRestores : Told → Told → Type 0
SettlesWhatRestores s t = (restored : Map) × (IsRestored s.now restored × IsSettled restored t)

-- Where no memory was found before anything was put back, P holds.
abbrev pub OnNoMemoryUnchanged : Type 0 → JournalFault → Type 0
OnNoMemoryUnchanged P (Failed after) = Unit {0}
OnNoMemoryUnchanged P (Damaged path) = Unit {0}
OnNoMemoryUnchanged P (NoMemory after) = after ≡ Unchanged → P

-- The gate was open, there is an installation that the map before restores to, and the map restores to it too. What
-- isn't the journal's below `.p2` is the same in both.
pub record RestoresToo (before m : Map) : Type 0 where
  pub opened : OpensGate before
  pub restored : Map
  pub is_restored : IsRestored before restored
  pub too : IsRestored m restored
  pub foreign : SameForeign before m

-- The map is one that a crash before may have left, or it restores to what the map before does.
abbrev pub IsLeftOrRestores : Told → Map → Type 0
IsLeftOrRestores s m = IsImage s m ⊎ RestoresToo s.now m
