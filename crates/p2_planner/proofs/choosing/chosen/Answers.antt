use Rattle.std.proofs.Common.{◌≡◌, ◌≤◌, ℕ, ◌+◌, List, length, take, take_all, sym, ap, ◌∙◌, subst}
use Rattle.pb_solver.specs.Values.{truths}
use Rattle.p2_planner.specs.Selecting.{picked}
use Rattle.p2_planner.proofs.PickLaws.{next_taken, next_left}
use Rattle.p2_planner.proofs.choosing.chosen.Goals as goal
use Rattle.p2_planner.proofs.choosing.chosen.Goals.{then-is_true+in_ok-push, else-is_true}

pub loop-place-preserved : goal.loop-place-preserved
loop-place-preserved c =
    let full = truths c.args.values.now in
    let items : List ℕ = c.items-number-items.result.now in
    let i = c.loop-place.place in
    let kept : List ℕ = c.loop-place.members in
    let before : kept ≡ picked full (take i items) = c.loop-place.invariant ∙ ap (λ (xs : List ℕ). picked full (take i xs)) (sym c.items-number-items.ensures) in
    let after : c.if-is_true.members ≡ picked full (take (i + 1) items) = elim c.if-is_true.branch [
      | then-is_true+in_ok-push w ↦ w.members-is ∙ (w.in_ok-push.ensures.ok ∙ next_taken full items i kept c.loop-place-test.true before (sym c.is_true.ensures ∙ w.if-is_true.true))
      | else-is_true w ↦ w.members-is ∙ next_left full items i kept c.loop-place-test.true before (sym c.is_true.ensures ∙ w.if-is_true.false)
    ] in
    after ∙ ap (λ (xs : List ℕ). picked full (take (i + 1) xs)) c.items-number-items.ensures

pub returns : goal.returns
returns c =
    let full = truths c.args.values.now in
    let numbers : List ℕ = c.args.numbers.now in
    let i = c.loop-place.place in
    let end : length numbers ≤ i = subst (λ (xs : List ℕ). length xs ≤ i) c.items-number-items.ensures c.loop-place-test.false in
    c.loop-place.invariant ∙ ap (picked full) (take_all i numbers end)
