-- What a crash leaves of a folder, at a moment and since one.
use Rattle.std.specs.Prelude.{◌≡◌, ℕ, ◌≤◌, ◌⊎◌, List, Option, Some, None, Contains}
use Rattle.folder_core.specs.Folder.{Map, Told, IsFormed}
use Rattle.folder_core.specs.Step.{Step}

-- A crash at this moment may leave this map: it is well formed, and what wasn't touched since the last sync stands as it
-- stood then. At a touched path any node may stand, or none.
pub record IsImage (s : Told) (m : Map) : Type 0 where
  pub formed : IsFormed m
  pub untouched : (path : List (List ℕ)) → ¬ (Contains s.touched path) → m path ≡ s.synced path

-- A folder that tells nothing has no images.
abbrev pub MayLeave : Option Told → Map → Type 0
MayLeave None m = ⊥
MayLeave (Some s) m = IsImage s m

-- Each image has P.
abbrev pub AllImages : (Map → Type 0) → Option Told → Type 0
AllImages P told = (m : Map) → MayLeave told m → P m

-- The path, and no other, is touched by the call or is left as it was.
pub record Touches (path : List (List ℕ)) (old new : Told) : Type 0 where
  pub synced : new.synced ≡ old.synced
  pub touched : (place : List (List ℕ)) → Contains new.touched place → Contains old.touched place ⊎ (place ≡ path)
  pub kept : (place : List (List ℕ)) → Contains old.touched place → Contains new.touched place

-- Each image was one before.
abbrev pub Narrows : Told → Told → Type 0
Narrows old new = (m : Map) → IsImage new m → IsImage old m

-- Time goes on: what a crash since an earlier moment may have left, it might have left before, or it may leave it now.
pub record Elapses (before now : ℕ) (past since : ℕ → Map → Type 0) (may_leave : Map → Type 0) : Type 0 where
  pub later : before ≤ now
  pub nothing_else : (moment : ℕ) (m : Map) → moment ≤ before → since moment m → past moment m ⊎ may_leave m
  pub keeps : (moment : ℕ) (m : Map) → moment ≤ before → past moment m → since moment m

-- each image at any moment from one to another has P
pub record EachLeft (before now : ℕ) (past since : ℕ → Map → Type 0) (P : Map → Type 0) : Type 0 where
  pub later : before ≤ now
  pub each : (m : Map) → since before m → P m
  -- for a run that began earlier
  pub nothing_else : (moment : ℕ) (m : Map) → moment ≤ before → since moment m → past moment m ⊎ P m

-- A crash at any moment since `old` leaves a map that has P.
abbrev pub LeavesOnly : {D : Type 0} → (D → Option Told) → (D → ℕ → Map → Type 0) → D → D → (Map → Type 0) → Type 0
LeavesOnly told left_since old new P =
    Step (told old) (told new) (λ s t. EachLeft s.moment t.moment (left_since old) (left_since new) P)
