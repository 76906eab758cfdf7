use Rattle.std.proofs.Common.{◌≡◌, ◌∷◌, ◌+◌, List, drop, Option, false, arith, refl, sym, ◌∙◌, subst}
use Rattle.std.specs.Prelude.{⊤}
use Rattle.std.specs.Option.{option_copied}
use Rattle.std.specs.Result.{is_err}
use Rattle.std.proofs.lemmas.List.{drop_all}
use Rattle.folder_core.specs.Folder.{set_at}
use Rattle.folder_core.specs.Step.{Step}
use Rattle.folder_core.specs.declared.node.Node.{Node}
use Rattle.folder_core.specs.declared.node.Touch.{Touch}
use Rattle.journal_caller.specs.Calls.{AreTouches, CanSetInTurn, IsOnTheWay, set_in_turn}
use Rattle.install_journal.specs.Open.{IsReady}
use Rattle.install_journal.specs.Overlay.{SameOutside}
use Rattle.install_journal.specs.Restored.{IsSettled}
use Rattle.install_journal.specs.Touching.{SameOutsideBut}
use Rattle.journal_caller.proofs.Calls.{at_ok, on_the_way, further_on, there, split_at, settled_same, keeps_on, left_at_most, old_or_new}
use Rattle.install_journal.proofs.Runs.{step_each, step_from, step_then}
use Rattle.journal_caller.proofs.caller.set_in_turn.Goals as goal

pub loop-touch-init : goal.loop-touch-init
loop-touch-init g c = record {
  ready = subst IsReady (sym c.in-Ok.ensures.begun) (record { ready = refl; all_left = refl; most = omega arith });
  began = c.in-Ok.ensures.is_open;
  keeps = record { leaves = c.in-Ok.ensures.leaves; restores = c.in-Ok.ensures.restores };
  touches = c.requires.touches;
  way = step_from (g.F.Folder.told c.args.folder.now) (g.F.Folder.told c.begin.new.folder) (λ s. CanSetInTurn c.args.touches.now s.now) (λ s t. SameOutside t.now s.now) (IsOnTheWay c.args.touches.now c.args.touches.now)
      c.requires.can_set c.begin.ensures.stays (λ s t can same. on_the_way c.args.touches.now s t c.requires.touches same can);
  later = c.begin.ensures.cause.later;
}

pub returns-then-is_err-clause-leaves : goal.returns-then-is_err-clause-leaves
returns-then-is_err-clause-leaves g c =
    left_at_most g.F.Folder.told g.F.Folder.left_since c.args.folder.now c.give_up_any.new.folder (set_in_turn c.args.touches.now)
    ((keeps_on g.F.Folder.told g.F.Folder.left_since c.args.folder.now c.touch.new.folder c.give_up_any.new.folder
    (keeps_on g.F.Folder.told g.F.Folder.left_since c.args.folder.now c.loop-touch.folder c.touch.new.folder c.loop-touch.invariant.keeps (g.met.F.Folder.image_now c.loop-touch.folder) (g.met.F.Folder.counts_now c.touch.new.folder)
    (step_each (g.F.Folder.told c.loop-touch.folder) (g.F.Folder.told c.touch.new.folder) (λ s t. SameOutsideBut c.touch-item.result.path s.now t.now) (λ s t. ⊤) (λ s t same. tt) c.touch.ensures.elsewhere) c.touch.ensures.restores)
    (g.met.F.Folder.image_now c.touch.new.folder) (g.met.F.Folder.counts_now c.give_up_any.new.folder) c.give_up_any.ensures.tells c.give_up_any.ensures.restores).leaves)

pub returns-then-is_err-clause-old : goal.returns-then-is_err-clause-old
returns-then-is_err-clause-old g c = λ is. (keeps_on g.F.Folder.told g.F.Folder.left_since c.args.folder.now c.touch.new.folder c.give_up_any.new.folder
    (keeps_on g.F.Folder.told g.F.Folder.left_since c.args.folder.now c.loop-touch.folder c.touch.new.folder c.loop-touch.invariant.keeps (g.met.F.Folder.image_now c.loop-touch.folder) (g.met.F.Folder.counts_now c.touch.new.folder)
    (step_each (g.F.Folder.told c.loop-touch.folder) (g.F.Folder.told c.touch.new.folder) (λ s t. SameOutsideBut c.touch-item.result.path s.now t.now) (λ s t. ⊤) (λ s t same. tt) c.touch.ensures.elsewhere) c.touch.ensures.restores)
    (g.met.F.Folder.image_now c.touch.new.folder) (g.met.F.Folder.counts_now c.give_up_any.new.folder) c.give_up_any.ensures.tells c.give_up_any.ensures.restores).leaves

pub loop-touch-preserved : goal.loop-touch-preserved
loop-touch-preserved g c =
    let rest : List Touch = drop (c.loop-touch.touch-index + 1) c.args.touches.now in
    let split : drop c.loop-touch.touch-index c.args.touches.now ≡ c.touch-item.result ∷ rest = split_at c.args.touches.now c.loop-touch.touch-index c.touch-item.result c.loop-touch-test.true c.touch-item.is in
    let fine : is_err c.touch.result ≡ false = sym c.is_err.ensures.value ∙ c.if-is_err.false in
    let Sets : Option Node → Type 0 = λ node. Step (g.F.Folder.told c.loop-touch.folder) (g.F.Folder.told c.touch.new.folder) (λ s t. SameOutside t.now (set_at s.now c.touch-item.result.path node)) in
    let are : AreTouches (c.touch-item.result ∷ rest) = subst AreTouches split c.loop-touch.invariant.touches in
    record {
      ready = at_ok c.touch.result (IsReady c.touch.new.self) fine c.touch.ensures.ready;
      began = c.touch.ensures.«open»;
      keeps = keeps_on g.F.Folder.told g.F.Folder.left_since c.args.folder.now c.loop-touch.folder c.touch.new.folder c.loop-touch.invariant.keeps (g.met.F.Folder.image_now c.loop-touch.folder) (g.met.F.Folder.counts_now c.touch.new.folder)
          (step_each (g.F.Folder.told c.loop-touch.folder) (g.F.Folder.told c.touch.new.folder) (λ s t. SameOutsideBut c.touch-item.result.path s.now t.now) (λ s t. ⊤) (λ s t same. tt) c.touch.ensures.elsewhere) c.touch.ensures.restores;
      touches = are.1;
      way = step_then (g.F.Folder.told c.args.folder.now) (g.F.Folder.told c.loop-touch.folder) (g.F.Folder.told c.touch.new.folder) (IsOnTheWay c.args.touches.now (c.touch-item.result ∷ rest)) (λ s t. SameOutside t.now (set_at s.now c.touch-item.result.path c.touch-item.result.node)) (IsOnTheWay c.args.touches.now rest)
          (subst (λ (l : List Touch). Step (g.F.Folder.told c.args.folder.now) (g.F.Folder.told c.loop-touch.folder) (IsOnTheWay c.args.touches.now l)) split c.loop-touch.invariant.way)
          (subst (λ (node : Option Node). Sets node) c.as_ref.ensures.value (at_ok c.touch.result (Sets (option_copied c.as_ref.result)) fine c.touch.ensures.sets))
          (λ s t u way sets. further_on c.args.touches.now rest c.touch-item.result s t u are.1 way sets);
      later = omega (arith, c.loop-touch.invariant.later, c.touch.ensures.cause.later);
    }

pub returns-clause-leaves : goal.returns-clause-leaves
returns-clause-leaves g c =
    old_or_new g.F.Folder.told g.F.Folder.left_since c.args.folder.now c.loop-touch.folder c.complete_any.new.folder (set_in_turn c.args.touches.now) c.loop-touch.invariant.keeps (g.met.F.Folder.image_now c.loop-touch.folder)
    (step_each (g.F.Folder.told c.args.folder.now) (g.F.Folder.told c.loop-touch.folder) (IsOnTheWay c.args.touches.now (drop c.loop-touch.touch-index c.args.touches.now)) (λ s t. SameOutside t.now (set_in_turn c.args.touches.now s.now))
    (λ s t way. there c.args.touches.now (drop c.loop-touch.touch-index c.args.touches.now) s t (drop_all c.loop-touch.touch-index c.args.touches.now c.loop-touch-test.false) way) c.loop-touch.invariant.way)
    c.complete_any.ensures.tells c.complete_any.ensures.leaves

pub returns-clause-old : goal.returns-clause-old
returns-clause-old g c = λ is.
    (keeps_on g.F.Folder.told g.F.Folder.left_since c.args.folder.now c.loop-touch.folder c.complete_any.new.folder c.loop-touch.invariant.keeps (g.met.F.Folder.image_now c.loop-touch.folder) (g.met.F.Folder.counts_now c.complete_any.new.folder)
    c.complete_any.ensures.tells (c.complete_any.ensures.old is)).leaves

pub returns-clause-new : goal.returns-clause-new
returns-clause-new g c = λ is.
    step_then (g.F.Folder.told c.args.folder.now) (g.F.Folder.told c.loop-touch.folder) (g.F.Folder.told c.complete_any.new.folder) (λ s t. SameOutside t.now (set_in_turn c.args.touches.now s.now)) (λ s t. IsSettled s.now t) (λ s t. IsSettled (set_in_turn c.args.touches.now s.now) t)
    (step_each (g.F.Folder.told c.args.folder.now) (g.F.Folder.told c.loop-touch.folder) (IsOnTheWay c.args.touches.now (drop c.loop-touch.touch-index c.args.touches.now)) (λ s t. SameOutside t.now (set_in_turn c.args.touches.now s.now))
    (λ s t way. there c.args.touches.now (drop c.loop-touch.touch-index c.args.touches.now) s t (drop_all c.loop-touch.touch-index c.args.touches.now c.loop-touch-test.false) way) c.loop-touch.invariant.way)
    (c.complete_any.ensures.new is)
    (λ s t u same settled. settled_same t.now (set_in_turn c.args.touches.now s.now) u same settled)
