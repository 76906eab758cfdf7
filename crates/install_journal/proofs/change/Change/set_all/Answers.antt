use Rattle.std.proofs.Common.{◌≡◌, [], ℕ, false, suc, ◌+◌, arith, ap, refl, subst, take, drop}
use Rattle.std.proofs.lemmas.List.{drop_all}
use Rattle.folder_core.specs.Folder.{Map, SameBut}
use Rattle.folder_core.specs.Step.{OnTold}
use Rattle.backup_store.specs.Turns.{set_in_turn}
use Rattle.install_journal.specs.Ahead.{IsAhead}
use Rattle.install_journal.specs.Open.{IsOpen}
use Rattle.install_journal.specs.Touching.{touch_at}
use Rattle.install_journal.specs.declared.change.Change.{Change}
use Rattle.install_journal.proofs.Aheads.{ahead_done, ahead_open, reached_more, refused_more, turns_more, cut_behind}
use Rattle.install_journal.proofs.Backs.{restores_and_then}
use Rattle.install_journal.proofs.Finishings.{same_restores}
use Rattle.install_journal.proofs.Runs.{on_each, step_same}
use Rattle.install_journal.proofs.change.Change.set_all.Goals as goal

pub loop-place-init : goal.loop-place-init
loop-place-init g c = record {
  change = ap (λ (n : ℕ). record c.args.self.now { left = n }) (let same : c.args.self.now.left ≡ c.args.self.now.left + 0 = omega arith in same);
  ahead = c.requires.ahead;
  now = step_same (g.F.Folder.told c.args.folder.now) (λ s t. t.now ≡ set_in_turn (take 0 c.args.touches.now) s.now) (λ s. refl);
  restores = same_restores g.F.Folder.told g.F.Folder.left_since (record c.args.self.now { ready = false }) c.args.folder.now
      (on_each (g.F.Folder.told c.args.folder.now) (IsAhead c.args.self.now c.args.touches.now) (IsOpen (record c.args.self.now { ready = false })) (λ s. ahead_open c.args.self.now c.args.touches.now s) c.requires.ahead)
      (g.met.F.Folder.image_now c.args.folder.now) (g.met.F.Folder.only_now c.args.folder.now);
  later = omega arith;
}

pub set_next-requires-clause-few : goal.set_next-requires-clause-few
set_next-requires-clause-few g c =
    let left = ap (λ (x : Change). x.left) c.loop-place.invariant.change in
    let kept = ap (λ (x : Change). x.kept) c.loop-place.invariant.change in
    let few = c.requires.few in
    let test = c.loop-place-test.true in
    omega (arith, left, kept, few, test)

pub loop-place-preserved : goal.loop-place-preserved
loop-place-preserved g c =
    let told = g.F.Folder.told in
    let inv = c.loop-place.invariant in
    let place = c.loop-place.place in
    let touches = c.args.touches.now in
    let cause = c.set_next.ensures.cause in
    record {
      change = reached_more c.args.self.now c.loop-place.self c.set_next.new.self place (place + 1) refl inv.change c.in-Ok.ensures.reached;
      ahead = subst (λ (n : ℕ). OnTold (told c.set_next.new.folder) (IsAhead c.set_next.new.self (drop n touches))) (let same : suc place ≡ place + 1 = omega arith in same) c.in-Ok.ensures.ahead;
      now = turns_more touches place c.loop-place-test.true (told c.args.folder.now) (told c.loop-place.folder) (told c.set_next.new.folder) inv.now c.in-Ok.ensures.sets;
      restores = restores_and_then told g.F.Folder.left_since c.args.folder.now c.loop-place.folder c.set_next.new.folder (g.met.F.Folder.image_now c.loop-place.folder) (g.met.F.Folder.counts_now c.loop-place.folder)
          inv.restores (λ s t. SameBut (touch_at touches place).path s.now t.now) c.set_next.ensures.elsewhere c.set_next.ensures.restores;
      later = omega (arith, inv.later, cause.later);
    }

pub returns-in-Err-clause-cut : goal.returns-in-Err-clause-cut
returns-in-Err-clause-cut g c =
    let told = g.F.Folder.told in
    let inv = c.loop-place.invariant in
    let place = c.loop-place.place in
    let touches = c.args.touches.now in (
      place,
      (
        c.loop-place-test.true,
        (
          refused_more _ c.args.self.now c.loop-place.self c.set_next.new.self place inv.change c.in-Err.ensures.refused,
          cut_behind _ (touch_at touches place).path (λ (m : Map). set_in_turn (take place touches) m) (told c.args.folder.now) (told c.loop-place.folder) (told c.set_next.new.folder) inv.now c.in-Err.ensures.cut,
        ),
      ),
    )

pub returns-in-Err-clause-restores : goal.returns-in-Err-clause-restores
returns-in-Err-clause-restores g c =
    restores_and_then g.F.Folder.told g.F.Folder.left_since c.args.folder.now c.loop-place.folder c.set_next.new.folder (g.met.F.Folder.image_now c.loop-place.folder) (g.met.F.Folder.counts_now c.loop-place.folder)
    c.loop-place.invariant.restores (λ s t. SameBut (touch_at c.args.touches.now c.loop-place.place).path s.now t.now) c.set_next.ensures.elsewhere c.set_next.ensures.restores

pub returns-clause-open : goal.returns-clause-open
returns-clause-open g c =
    let told = g.F.Folder.told in
    let done : drop c.loop-place.place c.args.touches.now ≡ [] = drop_all c.loop-place.place c.args.touches.now c.loop-place-test.false in
    on_each (told c.loop-place.folder) (IsAhead c.loop-place.self []) (IsOpen c.loop-place.self) (λ s. ahead_done c.loop-place.self s)
    (subst (λ l. OnTold (told c.loop-place.folder) (IsAhead c.loop-place.self l)) done c.loop-place.invariant.ahead)
