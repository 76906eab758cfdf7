-- What a change that has begun has kept in the folder.
use Rattle.std.specs.Prelude.{◌≡◌, ℕ, zero, suc, ◌+◌, ◌<◌, ◌≤◌, ◌⊎◌, List, [], ◌++◌, length, take, Some, None}
use Rattle.folder_core.specs.Folder.{Map, Told, IsFormed, CanSet, set_at}
use Rattle.folder_core.specs.Node.{entries_path}
use Rattle.folder_core.specs.Path.{IsBelow}
use Rattle.folder_core.specs.declared.node.Node.TheVariants.{Dir}
use Rattle.backup_store.specs.Entry.{IsEntry}
use Rattle.backup_store.specs.EntryText.{entry_text}
use Rattle.backup_store.specs.Held.{mark_text, gate_text}
use Rattle.backup_store.specs.KeepingAll.{IsAmong}
use Rattle.backup_store.specs.Places.{IsOutside, gate_path, entry_path, mark_path}
use Rattle.backup_store.specs.declared.entry.Entry.{Entry}
use Rattle.install_journal.specs.Fixed.{IsFixed, IsFixedFile}
use Rattle.install_journal.specs.Overlay.{entry_at, overlay, Covers, SameOutside}
use Rattle.install_journal.specs.Tidy.{IsForeign}

-- the entry of what stands at a path
abbrev pub entry_of : Map → List (List ℕ) → Entry
entry_of m path = record { path = path; before = m path }

-- The first entry of each path has the old node, and nothing old stands below a path of an entry but at such a path.
pub record Serves (entries : List Entry) (old : Map) : Type 0 where
  pub not_root : ¬ (Covers entries [])
  pub outside : (path : List (List ℕ)) → Covers entries path → IsOutside path
  pub first : (path : List (List ℕ)) (m : Map) → Covers entries path → overlay entries m path ≡ old path
  pub apart : (path place : List (List ℕ)) → Covers entries path → IsBelow path place → ¬ (Covers entries place) → old place ≡ None

-- So many entries, put back from the last of them to the first, lead to the old installation, and each can be put back.
abbrev pub Undoes : List Entry → ℕ → Map → Map → Type 0
Undoes entries zero now old = SameOutside now old
Undoes entries (suc place) now old =
    CanSet now (entry_at entries place).path
    × Undoes entries place (set_at now (entry_at entries place).path (entry_at entries place).before) old

-- In each image the entry's text is there.
pub record IsTextFixed (s : Told) (number : ℕ) (entry : Entry) : Type 0 where
  pub is_entry : IsEntry entry.path entry.before
  pub file : IsFixedFile s (entry_path number) (entry_text entry.path entry.before)

-- These are written behind the entries in each image. So many of them as count in an image, from the first on, do no harm
-- there.
pub record AreStray (entries strays : List Entry) (old : Map) (s : Told) : Type 0 where
  pub serve : (count : ℕ) → count ≤ length strays → Serves (entries ++ take count strays) old
  pub texts : (place : ℕ) → place < length strays → IsTextFixed s (length entries + 1 + place) (entry_at strays place)

-- The so many numbers behind the entries count in no image, or they do no harm.
abbrev pub AreHarmless : List Entry → ℕ → Map → Told → Type 0
AreHarmless entries behind old s =
    ((number : ℕ) → IsAmong (length entries + 1) behind number → IsFixed s (mark_path number) None)
    ⊎ ((strays : List Entry) × ((length strays ≡ behind) × AreStray entries strays old s))

-- The entries are kept in each image, and serve the old installation. Outside `.p2` nothing but their paths is changed, and
-- each image is tidy. So many entries may be written behind them, and nothing stands where a later one would.
pub record AreKept (entries : List Entry) (behind : ℕ) (old : Map) (s : Told) : Type 0 where
  pub most : length entries + behind ≤ 1000000
  pub serves : Serves entries old
  pub formed : IsFormed old
  pub gate : IsFixedFile s gate_path gate_text
  pub directory : IsFixed s entries_path (Some Dir)
  pub marks : (place : ℕ) → place < length entries → IsFixedFile s (mark_path (place + 1)) mark_text
  pub texts : (place : ℕ) → place < length entries → IsTextFixed s (place + 1) (entry_at entries place)
  pub rest : (path : List (List ℕ)) → IsOutside path → ¬ (Covers entries path) → IsFixed s path (old path)
  pub no_later_marks : (number : ℕ) → length entries + behind < number → number ≤ 1000001 → IsFixed s (mark_path number) None
  pub no_later_texts : (number : ℕ) → length entries + behind < number → number ≤ 1000001 → IsFixed s (entry_path number) None
  pub harmless : AreHarmless entries behind old s
  pub foreign : (path : List (List ℕ)) → IsForeign path → IsFixed s path None
