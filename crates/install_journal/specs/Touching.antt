-- What touches do to a change.
use Rattle.std.specs.Prelude.{◌≡◌, ◌≢◌, ℕ, zero, suc, ◌+◌, ◌<◌, ◌⊎◌, List, [], None, take, slice_index_or, false, true}
use Rattle.folder_core.specs.Folder.{Map}
use Rattle.folder_core.specs.declared.node.Touch.{Touch}
use Rattle.backup_store.specs.Places.{IsOutside}
use Rattle.backup_store.specs.Turns.{set_in_turn}
use Rattle.install_journal.specs.Overlay.{SameOutside}
use Rattle.install_journal.specs.declared.change.Change.{Change}
use Rattle.install_journal.specs.declared.fault.TouchFault.{TouchFault}
use Rattle.install_journal.specs.declared.fault.TouchFault.TheVariants.{Failed, TooManyEntries, NoMemory}

-- the change with one entry more
abbrev pub lengthened : Change → Change
lengthened change = record change { kept = change.kept + 1; left = change.left + 1 }

-- the change after a touch was refused
abbrev pub refused : TouchFault → Change → Change
refused Failed change = record change { ready = false; failed = true }
refused TooManyEntries change = record change { ready = false }
refused NoMemory change = record change { ready = false; failed = true }

-- The touch was refused, and the newest entry, if it was kept, is of its path.
abbrev pub IsRefused : TouchFault → Change → Change → Type 0
IsRefused fault old new = (new ≡ refused fault old) ⊎ (new ≡ refused fault (lengthened old))

-- Outside `.p2` the maps differ at the path at most.
abbrev pub SameOutsideBut : List (List ℕ) → Map → Map → Type 0
SameOutsideBut path old new = (place : List (List ℕ)) → IsOutside place → place ≢ path → new place ≡ old place

-- the change with so many entries more, none of whose touches is done
abbrev pub kept_more : ℕ → Change → Change
kept_more count change = record change { kept = change.kept + count }

-- the change after so many of the touches that it has kept entries of
abbrev pub reached : ℕ → Change → Change
reached count change = record change { left = change.left + count }

-- The touches were refused, and none of their entries was kept; or all entries were, and one of the touches was refused.
-- The entries of those behind it count as put back.
abbrev pub AreRefused : TouchFault → ℕ → Change → Change → Type 0
AreRefused fault count old new =
    (new ≡ refused fault old) ⊎ ((done : ℕ) × ((done < count) × (new ≡ refused fault (reached (suc done) (kept_more count old)))))

abbrev pub no_touch : Touch
no_touch = record { path = []; node = None }

-- the touch at a place, from 0
abbrev pub touch_at : List Touch → ℕ → Touch
touch_at touches place = slice_index_or touches place no_touch

-- So many of the touches were reached: all but the last of them are done, and the path of the last has any node or none.
abbrev pub HasReached : ℕ → List Touch → Map → Map → Type 0
HasReached zero touches old new = SameOutside new old
HasReached (suc done) touches old new = SameOutsideBut (touch_at touches done).path (set_in_turn (take done touches) old) new
