-- What the calls of a change come to, taken together.
use Rattle.std.specs.Prelude.{◌≢◌, ◌⊎◌, ℕ, List, [], ◌∷◌, Option, IfSome, ⊤}
use Rattle.std.specs.List.{AllByRecursion}
use Rattle.folder_core.specs.Crash.{IsImage, AllImages, LeavesOnly}
use Rattle.folder_core.specs.Folder.{Map, Told, CanSet, set_at}
use Rattle.folder_core.specs.Node.{IsNode, IsSmallAt}
use Rattle.folder_core.specs.Step.{OnTold}
use Rattle.folder_core.specs.declared.node.Touch.{Touch}
use Rattle.backup_store.specs.Places.{IsOutside}
use Rattle.install_journal.specs.Overlay.{SameOutside}
use Rattle.install_journal.specs.Restored.{IsRestored, RestoresTo}
use Rattle.install_journal.specs.Tidy.{SameForeign}

-- the map where each of these is set in turn
abbrev pub set_in_turn : List Touch → Map → Map
set_in_turn [] m = m
set_in_turn (touch ∷ touches) m = set_in_turn touches (set_at m touch.path touch.node)

-- A change may touch such a path with such a node.
pub record IsTouch (touch : Touch) : Type 0 where
  pub not_root : touch.path ≢ []
  pub outside : IsOutside touch.path
  pub node : IfSome touch.node IsNode
  pub small : IfSome touch.node (IsSmallAt touch.path)

abbrev pub AreTouches : List Touch → Type 0
AreTouches touches = AllByRecursion IsTouch touches

-- Each can be set once those before it are.
abbrev pub CanSetInTurn : List Touch → Map → Type 0
CanSetInTurn [] m = ⊤
CanSetInTurn (touch ∷ touches) m = CanSet m touch.path × CanSetInTurn touches (set_at m touch.path touch.node)

-- Some of the touches are done, and the rest can be done and lead to the same installation.
pub record IsOnTheWay (touches rest : List Touch) (s t : Told) : Type 0 where
  pub leads : SameOutside (set_in_turn rest t.now) (set_in_turn touches s.now)
  pub can_set : CanSetInTurn rest t.now

-- A crash might have left the map at this moment, or it restores to the installation of this moment.
abbrev pub IsLeftOrOld : Told → Map → Type 0
IsLeftOrOld s m = IsImage s m ⊎ RestoresTo s.now m

-- And here it may also restore to another installation, and what isn't the journal's below `.p2` is as it was.
abbrev pub IsLeftOldOrNew : Map → Told → Map → Type 0
IsLeftOldOrNew wanted s m = IsLeftOrOld s m ⊎ (IsRestored m wanted × SameForeign s.now m)

-- Whatever crash came since the earlier moment left what it might have left then, or the installation of then. One that
-- comes now leaves the latter.
pub record KeepsOld {D : Type 0} (told : D → Option Told) (left_since : D → ℕ → Map → Type 0) (old new : D) : Type 0 where
  pub leaves : OnTold (told old) (λ s. LeavesOnly told left_since old new (IsLeftOrOld s))
  pub restores : OnTold (told old) (λ s. AllImages (RestoresTo s.now) (told new))
