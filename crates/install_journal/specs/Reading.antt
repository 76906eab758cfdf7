-- What is known of the entries while a recovery reads them. Only clauses of private functions cite this.
use Rattle.std.specs.Prelude.{◌≡◌, ◌↔◌, ℕ, ◌+◌, ◌<◌, ◌≤◌, List, length, Contains, Some, MatchOption}
use Rattle.std.specs.List.{AllAdjacentBelow}
use Rattle.std.specs.BTreeMap.{BTreeMap, get}
use Rattle.folder_core.specs.Folder.{Map}
use Rattle.folder_core.specs.PathOrder.{path_cmp}
use Rattle.backup_store.specs.Held.{Counts}
use Rattle.backup_store.specs.declared.entry.Entry.{Entry}
use Rattle.install_journal.specs.Broken.{IsSound}
use Rattle.install_journal.specs.Overlay.{entry_at, Covers}
use Rattle.install_journal.specs.Plan.{IsOldest, IsPathBelow}
use Rattle.install_journal.specs.declared.plan.Oldest.{Oldest}
use Rattle.install_journal.specs.declared.reading.First.{First}
use Rattle.install_journal.specs.declared.reading.Gathered.{Gathered}

-- the oldest of a path, by what was noted of its first entry
abbrev pub oldest_of : List (List ℕ) → First → Oldest
oldest_of path first = record { path = path; number = first.number; kind = first.kind }

abbrev pub first_of : Oldest → First
first_of oldest = record { number = oldest.number; kind = oldest.kind }

-- These entries are noted, for each path its first.
pub record AreNoted (entries : List Entry) (gathered : Gathered) : Type 0 where
  pub count : gathered.count ≡ length entries
  pub firsts : (path : List (List ℕ)) → MatchOption (get path_cmp gathered.firsts path) (¬ (Covers entries path)) (λ first. IsOldest entries (oldest_of path first))

-- The first entries, which count and can be put back, are noted.
pub record IsReadTo (m : Map) (gathered : Gathered) : Type 0 where
  pub entries : List Entry
  pub most : length entries ≤ 1000000
  pub counts : (place : ℕ) → place < length entries → Counts m (place + 1)
  pub sound : (place : ℕ) → place < length entries → IsSound m (place + 1) (entry_at entries place).path (entry_at entries place).before
  pub noted : AreNoted entries gathered

-- All entries that count are noted, and each can be put back.
pub record IsReadWhole (m : Map) (gathered : Gathered) : Type 0 where
  pub so_far : IsReadTo m gathered
  pub last : gathered.count < 1000000 → ¬ (Counts m (gathered.count + 1))

-- The list has what was noted, in the order of paths.
pub record IsListed (firsts : BTreeMap (List (List ℕ)) First) (list : List Oldest) : Type 0 where
  pub rising : AllAdjacentBelow IsPathBelow list (length list)
  pub each : (oldest : Oldest) → Contains list oldest ↔ (get path_cmp firsts oldest.path ≡ Some (first_of oldest))
