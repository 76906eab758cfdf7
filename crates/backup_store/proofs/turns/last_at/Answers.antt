use Rattle.std.proofs.Common.{◌≡◌, ◌+◌, List, Bor, MatchOption, IfSome, take, true, sym, ◌∙◌, subst}
use Rattle.std.proofs.lemmas.List.{take_all}
use Rattle.folder_core.specs.Folder.{Map}
use Rattle.folder_core.specs.Node.{IsSmallAt}
use Rattle.folder_core.specs.Path.{path_eqb}
use Rattle.folder_core.specs.declared.node.Touch.{Touch}
use Rattle.folder_core.proofs.Maps.{path_eqb-Decides}
use Rattle.backup_store.specs.Turns.{IsTouch, set_in_turn}
use Rattle.backup_store.proofs.InTurn.{last_here, last_before, last_kept, touch_here}
use Rattle.backup_store.proofs.turns.last_at.Goals as goal
use Rattle.backup_store.proofs.turns.last_at.Goals.{then-eq, else-eq}

pub loop-touch-preserved : goal.loop-touch-preserved
loop-touch-preserved c =
    let touches = c.args.touches.now in
    let path = c.args.path.now in
    let place = c.loop-touch.touch-index in
    let touch = c.touch-item.result in
    let is : IsTouch touch = subst IsTouch (sym c.touch-item.is) (touch_here touches place touch c.loop-touch-test.true c.requires) in
    elim c.if-eq.branch [
      | then-eq w ↦
          let same : path_eqb touch.path path ≡ true = sym c.eq.ensures ∙ w.if-eq.true in
          rw w.last-is (record {
            stands = last_here touches place touch path c.loop-touch-test.true c.touch-item.is same;
            node = is.node;
            small = subst (λ p. IfSome touch.node (IsSmallAt p)) ((path_eqb-Decides touch.path path).0 same) is.small;
          })
      | else-eq w ↦
          rw w.last-is (record {
            stands = last_kept (λ (t : Bor Touch). t.now.node) c.loop-touch.last (λ m. set_in_turn (take place touches) m path) (λ m. set_in_turn (take (place + 1) touches) m path) (λ m. m path)
                (last_before touches place touch path c.loop-touch-test.true c.touch-item.is (sym c.eq.ensures ∙ w.if-eq.false)) c.loop-touch.invariant.stands;
            node = c.loop-touch.invariant.node;
            small = c.loop-touch.invariant.small;
          })
    ]

pub returns-clause-stands : goal.returns-clause-stands
returns-clause-stands c =
    let all : take c.loop-touch.touch-index c.args.touches.now ≡ c.args.touches.now = take_all c.loop-touch.touch-index c.args.touches.now c.loop-touch-test.false in
    subst (λ (l : List Touch). MatchOption c.loop-touch.last ((m : Map) → set_in_turn l m c.args.path.now ≡ m c.args.path.now) (λ touch. (m : Map) → set_in_turn l m c.args.path.now ≡ touch.now.node)) all c.loop-touch.invariant.stands
