use Rattle.std.proofs.Common.{◌≡◌, ◌<◌, true, ℕ, List, length, get_or, subst, arith}
use Rattle.std.specs.List.{remove}
use Rattle.native_actions.specs.Cleared.{can_leave, without}
use Rattle.native_actions.proofs.Leaving.{leaves, still_rising}
use Rattle.native_actions.proofs.cleanupcopy.cleared.Goals as goal

pub loop-count-preserved-in-Continue-1 : goal.loop-count-preserved-in-Continue-1
loop-count-preserved-in-Continue-1 c =
    let path = c.index-noted-count.result in
    let place = c.in-Some.place in
    let left = c.loop-count.left.items in
    let here = subst (λ (l : List (List (List ℕ))). (place < length l) × (get_or l place path ≡ path) × (can_leave path l ≡ true) × (remove l place ≡ without path l)) c.as_slice.ensures.value c.in-Some.ensures in
    let up = c.loop-count.invariant.0 in (
      omega arith,
      still_rising path left c.remove-path.new.self.items place c.loop-count.invariant.1 here.3 c.remove-path.ensures.items,
      leaves c.args.noted.now left c.loop-count.count path c.loop-count-test.true up c.index-noted-count.is c.loop-count.steps _ c.loop-count.invariant.2
          place c.remove-path.result c.remove-path.new.self.items c.push.new.self here.0 here.1 here.2 here.3 c.remove-path.ensures.value c.remove-path.ensures.items c.in_ok-push.ensures.ok,
    )
