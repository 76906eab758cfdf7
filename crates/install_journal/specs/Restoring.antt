-- How far a plan is put back. Only clauses of private functions cite this.
use Rattle.std.specs.Prelude.{◌≡◌, ◌⊎◌, List, Contains, ℕ, None}
use Rattle.folder_core.specs.Folder.{Told}
use Rattle.backup_store.specs.Held.{IsOpen as OpensGate}
use Rattle.backup_store.specs.declared.entry.Entry.{Entry}
use Rattle.install_journal.specs.Overlay.{overlay}
use Rattle.install_journal.specs.Plan.{IsPlan}
use Rattle.install_journal.specs.Restored.{AreCounted}
use Rattle.install_journal.specs.declared.plan.Oldest.{Oldest}
use Rattle.install_journal.specs.declared.plan.Plan.{Plan}

-- The plan has the path.
abbrev pub HasPath : Plan → List (List ℕ) → Type 0
HasPath plan path = (oldest : Oldest) × (Contains plan.oldest oldest × (oldest.path ≡ path))

-- The plan is that of what is synced, where the gate is open, and nothing but its paths was touched since.
pub record IsUnderway (plan : Plan) (s : Told) : Type 0 where
  pub is_plan : IsPlan plan s.synced
  pub opened : OpensGate s.synced
  pub touched : (path : List (List ℕ)) → Contains s.touched path → HasPath plan path

-- Nothing is synced, and nothing but the plan's paths is touched.
pub record KeepsTo (plan : Plan) (s t : Told) : Type 0 where
  pub synced : t.synced ≡ s.synced
  pub touched : (path : List (List ℕ)) → Contains t.touched path → Contains s.touched path ⊎ HasPath plan path

-- The plan is underway, and nothing stands at its paths.
pub record AreBare (plan : Plan) (s : Told) : Type 0 where
  pub underway : IsUnderway plan s
  pub bare : (path : List (List ℕ)) → HasPath plan path → s.now path ≡ None

-- At the path stands what the entries that count make of what is synced.
abbrev pub IsSetBack : Told → List (List ℕ) → Type 0
IsSetBack s path = (entries : List Entry) → AreCounted s.synced entries → s.now path ≡ overlay entries s.synced path

-- The plan is underway, and all of it is put back.
pub record AreSetBack (plan : Plan) (s : Told) : Type 0 where
  pub underway : IsUnderway plan s
  pub set : (path : List (List ℕ)) → IsSetBack s path
