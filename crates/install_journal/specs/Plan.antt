-- What a recovery is to put back, as it was gathered. Only clauses of private functions cite this.
use Rattle.std.specs.Prelude.{◌≡◌, ◌↔◌, ℕ, ◌-◌, ◌<◌, ◌≤◌, List, length, Contains, Option, Some, None}
use Rattle.std.specs.List.{AllAdjacentBelow}
use Rattle.folder_core.specs.Folder.{Map}
use Rattle.folder_core.specs.PathOrder.{IsPathBefore}
use Rattle.folder_core.specs.declared.node.Node.{Node}
use Rattle.folder_core.specs.declared.node.Node.TheVariants.{File, Dir, Link}
use Rattle.backup_store.specs.declared.entry.Entry.{Entry}
use Rattle.install_journal.specs.Broken.{AreSound, ShowsUnfit}
use Rattle.install_journal.specs.Overlay.{entry_at, overlay, Covers}
use Rattle.install_journal.specs.Restored.{CanOverlay}
use Rattle.install_journal.specs.declared.plan.Oldest.{Oldest}
use Rattle.install_journal.specs.declared.plan.OldKind.{OldKind}
use Rattle.install_journal.specs.declared.plan.OldKind.TheVariants.{Nothing, Directory, Leaf}
use Rattle.install_journal.specs.declared.plan.Plan.{Plan}

abbrev pub kind_of : Option Node → OldKind
kind_of None = Nothing
kind_of (Some (File mode blob)) = Leaf
kind_of (Some Dir) = Directory
kind_of (Some (Link target)) = Leaf

-- The entry of this number is the first of the path, and has a node of this kind.
pub record IsOldest (entries : List Entry) (oldest : Oldest) : Type 0 where
  pub from_one : 0 < oldest.number.0
  pub most : oldest.number.0 ≤ length entries
  pub path : (entry_at entries (oldest.number.0 - 1)).path ≡ oldest.path
  pub first : (m : Map) → overlay entries m oldest.path ≡ (entry_at entries (oldest.number.0 - 1)).before
  pub kind : oldest.kind ≡ kind_of (entry_at entries (oldest.number.0 - 1)).before

abbrev pub IsPathBelow : Oldest → Oldest → Type 0
IsPathBelow a b = IsPathBefore a.path b.path

-- The plan has the oldest of each path that has an entry, in the order of paths.
pub record IsGathered (plan : Plan) (m : Map) : Type 0 where
  pub entries : List Entry
  pub sound : AreSound m entries
  pub count : plan.count ≡ length entries
  pub rising : AllAdjacentBelow IsPathBelow plan.oldest (length plan.oldest)
  pub oldest : (oldest : Oldest) → Contains plan.oldest oldest → IsOldest entries oldest
  pub covers : (path : List (List ℕ)) → Covers entries path ↔ ((oldest : Oldest) × (Contains plan.oldest oldest × (oldest.path ≡ path)))

-- The entries that count can be put back by this plan.
pub record IsPlan (plan : Plan) (m : Map) : Type 0 where
  pub gathered : IsGathered plan m
  pub can_overlay : CanOverlay gathered.entries m

-- These entries can be put back, or the path that was found shows why not.
abbrev pub FitsOrShows : List Entry → Map → Option (List (List ℕ)) → Type 0
FitsOrShows entries m None = CanOverlay entries m
FitsOrShows entries m (Some path) = ShowsUnfit entries m path
