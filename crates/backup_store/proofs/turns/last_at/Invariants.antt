use Rattle.std.proofs.Common.{◌≡◌, take}
use Rattle.std.specs.Prelude.{MatchOption, IfSome}
use Rattle.folder_core.specs.Folder.{Map}
use Rattle.folder_core.specs.Node.{IsNode, IsSmallAt}
use Rattle.backup_store.specs.Turns.{set_in_turn}
use Rattle.backup_store.proofs.turns.last_at.Given as goal

abbrev pub invariant-loop-touch : goal.invariant-loop-touch
invariant-loop-touch l = record {
  stands : MatchOption l.last
      ((m : Map) → set_in_turn (take l.touch-index l.touches) m l.path ≡ m l.path)
      (λ touch. (m : Map) → set_in_turn (take l.touch-index l.touches) m l.path ≡ touch.now.node);
  node : IfSome l.last (λ touch. IfSome touch.now.node IsNode);
  small : IfSome l.last (λ touch. IfSome touch.now.node (IsSmallAt l.path));
}
