-- Entries are put back, the newest first.
use Rattle.std.specs.Prelude.{◌≡◌, ℕ, zero, suc, ◌-◌, ◌≤◌, false, true, List, ⊤}
use Rattle.folder_core.specs.Folder.{Map}
use Rattle.folder_core.specs.declared.node.After.TheVariants.{Recover}
use Rattle.backup_store.specs.PuttingBack.{PutsBack}
use Rattle.install_journal.specs.declared.change.Change.{Change}
use Rattle.install_journal.specs.declared.fault.JournalFault.{JournalFault}
use Rattle.install_journal.specs.declared.fault.JournalFault.TheVariants.{Failed, Damaged, NoMemory}

-- So many entries are put back, from the newest on downwards.
abbrev pub PutsBackFrom : ℕ → ℕ → Map → Map → Type 0
PutsBackFrom zero newest before after = after ≡ before
PutsBackFrom (suc count) newest before after = (between : Map) × (PutsBack newest before between × PutsBackFrom count (newest - 1) between after)

-- the change with so many entries left that aren't put back
abbrev pub shortened : ℕ → Change → Change
shortened left change = record change { left = left; ready = false }

-- The change lost some entries at most, down to this many, and a call on it was refused.
pub record IsShortened (least : ℕ) (old new : Change) : Type 0 where
  pub kept : new.kept ≡ old.kept
  pub down_to : least ≤ new.left
  pub most : new.left ≤ old.left
  pub ready : new.ready ≡ false
  pub failed : new.failed ≡ true

-- A recovery has to follow.
abbrev pub AsksRecovery : JournalFault → Type 0
AsksRecovery (Failed after) = after ≡ Recover
AsksRecovery (Damaged path) = ⊤
AsksRecovery (NoMemory after) = after ≡ Recover

-- Where the fault is damage, its path has P.
abbrev pub OnDamage : (List (List ℕ) → Type 0) → JournalFault → Type 0
OnDamage P (Failed after) = ⊤
OnDamage P (Damaged path) = P path
OnDamage P (NoMemory after) = ⊤

abbrev pub IsFailure : JournalFault → Type 0
IsFailure (Failed after) = ⊤
IsFailure (Damaged path) = ⊥
IsFailure (NoMemory after) = ⊥
