-- What a recovery makes of a map that a crash left.
use Rattle.std.specs.Prelude.{◌≡◌, ℕ, ◌+◌, ◌<◌, ◌≤◌, List, [], length, Option, None}
use Rattle.folder_core.specs.Crash.{IsImage, LeavesOnly}
use Rattle.folder_core.specs.Folder.{Map, Told, IsFormed}
use Rattle.folder_core.specs.Path.{IsBelow}
use Rattle.folder_core.specs.Step.{OnTold}
use Rattle.backup_store.specs.Held.{Counts, HoldsEntry, IsOpen as OpensGate}
use Rattle.backup_store.specs.Places.{IsOutside}
use Rattle.backup_store.specs.declared.entry.Entry.{Entry}
use Rattle.install_journal.specs.Overlay.{entry_at, overlay, Covers, SameOutside}
use Rattle.install_journal.specs.Tidy.{SameForeign}

-- The entries that count: those numbered 1, 2 and on, as long as each counts, and at most a million.
pub record AreCounted (m : Map) (entries : List Entry) : Type 0 where
  pub most : length entries ≤ 1000000
  pub counts : (place : ℕ) → place < length entries → Counts m (place + 1)
  pub holds : (place : ℕ) → place < length entries → HoldsEntry m (place + 1) (entry_at entries place).path (entry_at entries place).before
  pub last : length entries < 1000000 → ¬ (Counts m (length entries + 1))

-- The entries can be put back into the map: none is of the root or of the journal's own paths, nothing stands below one of
-- their paths but at such a path, and what they make of the map is well formed.
pub record CanOverlay (entries : List Entry) (m : Map) : Type 0 where
  pub not_root : ¬ (Covers entries [])
  pub outside : (path : List (List ℕ)) → Covers entries path → IsOutside path
  pub none_below : (path place : List (List ℕ)) → Covers entries path → IsBelow path place → ¬ (Covers entries place) → m place ≡ None
  pub formed : IsFormed (overlay entries m)

-- The map with all counted entries put back.
pub record IsPutBack (m restored : Map) : Type 0 where
  pub entries : List Entry
  pub counted : AreCounted m entries
  pub can_overlay : CanOverlay entries m
  pub same : SameOutside restored (overlay entries m)

-- The installation of the map where the gate is closed, and else that with all counted entries put back.
pub record IsRestored (m restored : Map) : Type 0 where
  pub closed : ¬ (OpensGate m) → SameOutside restored m
  pub opened : OpensGate m → IsPutBack m restored

-- What the first map restores to, the second does too, and what isn't the journal's below `.p2` is the same in both.
pub record RestoresLike (first second : Map) : Type 0 where
  pub restores : (restored : Map) → IsRestored first restored → IsRestored second restored
  pub foreign : SameForeign first second

-- The second map restores to the installation of the first, and what isn't the journal's below `.p2` is the same in both.
pub record RestoresTo (first second : Map) : Type 0 where
  pub restores : IsRestored second first
  pub foreign : SameForeign first second

-- What a crash at any moment between leaves restores to what the map at the earlier moment restores to. What isn't the
-- journal's below `.p2` is as it was.
abbrev pub RestoresSame : {D : Type 0} → (D → Option Told) → (D → ℕ → Map → Type 0) → D → D → Type 0
RestoresSame told left_since old new = OnTold (told old) (λ s. LeavesOnly told left_since old new (RestoresLike s.now))

-- Every image restores to this map, the gate is closed in each, and this is the installation now.
pub record IsSettled (installation : Map) (s : Told) : Type 0 where
  pub now : SameOutside s.now installation
  pub restores : (m : Map) → IsImage s m → IsRestored m installation
  pub closed : (m : Map) → IsImage s m → ¬ (OpensGate m)
