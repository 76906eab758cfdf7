-- What stands before the gate is opened.
use Rattle.std.specs.Prelude.{◌≡◌, ◌≢◌, ℕ, ◌⊎◌, List, [], ◌∷◌, ◌++◌, codes, Option, Some, None, IsSome, true, false}
use Rattle.folder_core.specs.Crash.{IsImage, LeavesOnly}
use Rattle.folder_core.specs.Folder.{Map, Told, NothingBelow}
use Rattle.folder_core.specs.Node.{entries_path}
use Rattle.folder_core.specs.Path.{IsBelow}
use Rattle.folder_core.specs.Step.{OnTold}
use Rattle.folder_core.specs.declared.node.Node.{Node}
use Rattle.folder_core.specs.declared.node.Node.TheVariants.{Dir}
use Rattle.folder_core.specs.declared.node.After.TheVariants.{Unchanged, Recover, Either}
use Rattle.backup_store.specs.Held.{IsOpen as OpensGate}
use Rattle.backup_store.specs.Places.{IsOutside, gate_path}
use Rattle.install_journal.specs.Closing.{IsSynced}
use Rattle.install_journal.specs.Firsts.{IsFirst}
use Rattle.install_journal.specs.Fixed.{IsFixed}
use Rattle.install_journal.specs.Restored.{RestoresTo}
use Rattle.install_journal.specs.Tidy.{IsForeign, IsTidy}
use Rattle.install_journal.specs.declared.change.Change.{Change}
use Rattle.install_journal.specs.declared.fault.JournalFault.{JournalFault}
use Rattle.install_journal.specs.declared.fault.JournalFault.TheVariants.{Failed, Damaged, NoMemory}

-- `.p2`
abbrev pub journal_path : List (List ℕ)
journal_path = codes ".p2" ∷ []

-- What stays as it is until the gate is opened: all that is outside `.p2`, the gate, and what isn't the journal's.
abbrev pub IsLeft : List (List ℕ) → Type 0
IsLeft path = IsOutside path ⊎ ((path ≡ gate_path) ⊎ IsForeign path)

-- The gate is closed in each image, and each has what stands now where that is to stay.
pub record IsPrepared (s : Told) : Type 0 where
  pub rest : (path : List (List ℕ)) → IsLeft path → IsFixed s path (s.now path)
  pub closed : ¬ (OpensGate s.now)

pub record Moves (s t : Told) : Type 0 where
  pub fixed : (path : List (List ℕ)) → IsLeft path → (stands : Option Node) → IsFixed s path stands → IsFixed t path stands
  pub now : (path : List (List ℕ)) → IsLeft path → t.now path ≡ s.now path

-- Nothing stands below a child of `.p2/e`.
abbrev pub HasFlatEntries : Map → Type 0
HasFlatEntries m = (name next : List ℕ) → m (entries_path ++ name ∷ next ∷ []) ≡ None

-- `.p2/e` is a directory with nothing in it.
pub record HasNoEntries (m : Map) : Type 0 where
  pub directory : m entries_path ≡ Some Dir
  pub none : (name : List ℕ) → m (entries_path ++ name ∷ []) ≡ None

-- The map restores to this installation, and its gate is closed.
abbrev pub IsClosedOld : Map → Map → Type 0
IsClosedOld old m = RestoresTo old m × (¬ (OpensGate m))

abbrev pub LeavesClosed : {D : Type 0} → (D → Option Told) → (D → ℕ → Map → Type 0) → D → D → Type 0
LeavesClosed told left_since old new = OnTold (told old) (λ s. LeavesOnly told left_since old new (IsClosedOld s.now))

-- Something stands there that the journal didn't put there: a child of `.p2` that is neither `undo` nor `e`, or what lies
-- below `.p2/undo` or below a child of `.p2/e`.
pub record IsDamage (m : Map) (path : List (List ℕ)) : Type 0 where
  pub stands : IsSome (m path)
  pub place : ((name : List ℕ) × ((path ≡ journal_path ++ name ∷ []) × ((name ≢ codes "undo") × (name ≢ codes "e"))))
      ⊎ (IsBelow gate_path path ⊎ ((name : List ℕ) × IsBelow (entries_path ++ name ∷ []) path))

-- the paths of one kind of damage
abbrev pub IsStrayChild : Map → List (List ℕ) → Type 0
IsStrayChild m path = IsSome (m path) × ((name : List ℕ) × ((path ≡ journal_path ++ name ∷ []) × ((name ≢ codes "undo") × (name ≢ codes "e"))))

abbrev pub IsBelowEntry : Map → List (List ℕ) → Type 0
IsBelowEntry m path = IsSome (m path) × ((name : List ℕ) × ((next : List ℕ) × (path ≡ entries_path ++ name ∷ next ∷ [])))

abbrev pub IsChildOf : Map → List (List ℕ) → List (List ℕ) → Type 0
IsChildOf m path child = IsSome (m child) × ((name : List ℕ) × (child ≡ path ++ name ∷ []))

-- The first child of a directory, or None where it has none.
abbrev pub IsChild : Map → List (List ℕ) → Option (List (List ℕ)) → Type 0
IsChild m path None = (name : List ℕ) → m (path ++ name ∷ []) ≡ None
IsChild m path (Some child) = IsFirst (IsChildOf m path) child

-- a change that has just begun
abbrev pub begun : Change
begun = record { kept = 0; left = 0; ready = true; failed = false }

-- The journal's places are empty, and all is synced: the gate can be opened.
pub record IsFresh (s : Told) : Type 0 where
  pub tidy : IsTidy s.now
  pub synced : IsSynced s
  pub entries : HasNoEntries s.now
  pub journal : s.now journal_path ≡ Some Dir
  pub below_gate : NothingBelow s.now gate_path
  pub closed : ¬ (OpensGate s.now)

-- The gate is closed in each image.
abbrev pub IsShut : Told → Type 0
IsShut s = (m : Map) → IsImage s m → ¬ (OpensGate m)

-- The fault says that nothing is changed, or asks for a recovery.
abbrev pub IsUnchanged : JournalFault → Type 0
IsUnchanged (Failed after) = after ≡ Unchanged
IsUnchanged (Damaged path) = Unit {0}
IsUnchanged (NoMemory after) = after ≡ Unchanged

abbrev pub OnUnchanged : Type 0 → JournalFault → Type 0
OnUnchanged P (Failed after) = after ≡ Unchanged → P
OnUnchanged P (Damaged path) = P
OnUnchanged P (NoMemory after) = after ≡ Unchanged → P

abbrev pub OnRecover : Type 0 → JournalFault → Type 0
OnRecover P (Failed after) = after ≡ Recover → P
OnRecover P (Damaged path) = Unit {0}
OnRecover P (NoMemory after) = after ≡ Recover → P

abbrev pub NeverEither : JournalFault → Type 0
NeverEither (Failed after) = after ≢ Either
NeverEither (Damaged path) = Unit {0}
NeverEither (NoMemory after) = after ≢ Either

-- What stands at `.p2` stays, and where nothing stands below the gate, nothing does afterwards.
pub record SparesGate (a b : Map) : Type 0 where
  pub journal : b journal_path ≡ a journal_path
  pub below : (name : List ℕ) (rest : List (List ℕ)) → a (gate_path ++ name ∷ rest) ≡ None → b (gate_path ++ name ∷ rest) ≡ None
