-- Calls that only look at a folder.
use Rattle.std.specs.Prelude.{◌≡◌, ℕ, Option}
use Rattle.folder_core.specs.Crash.{IsImage, Elapses}
use Rattle.folder_core.specs.Folder.{Map, Told}
use Rattle.folder_core.specs.Step.{Step}

-- Nothing is changed but the moment.
pub record Looks (past since : ℕ → Map → Type 0) (s t : Told) : Type 0 where
  pub now : t.now ≡ s.now
  pub synced : t.synced ≡ s.synced
  pub touched : t.touched ≡ s.touched
  pub time : Elapses s.moment t.moment past since (IsImage t)

abbrev pub OnlyLooks : {D : Type 0} → (D → Option Told) → (D → ℕ → Map → Type 0) → D → D → Type 0
OnlyLooks told left_since old new = Step (told old) (told new) (Looks (left_since old) (left_since new))
