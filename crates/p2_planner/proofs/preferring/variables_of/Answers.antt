use Rattle.std.proofs.Common.{◌≤◌, ℕ, ◌+◌, List, length, get_or, take, take_all, sym, subst}
use Rattle.std.proofs.lemmas.List.{take_more}
use Rattle.pb_encode.specs.UnitsOf.{numbers_of}
use Rattle.pb_encode.proofs.MemberLaws.{distinct_numbers}
use Rattle.p2_planner.specs.Preferring.{ArePreferred}
use Rattle.p2_planner.proofs.PreferLaws.{preferred_more, preferred_same}
use Rattle.p2_planner.proofs.preferring.variables_of.Goals as goal
use Rattle.p2_planner.proofs.preferring.variables_of.Goals.{in-Some+in_ok-push, in_default}

pub loop-number-preserved : goal.loop-number-preserved
loop-number-preserved c =
    let numbers : List ℕ = numbers_of c.args.members.now in
    let items : List ℕ = c.items-number-items.result.now in
    let i = c.loop-number.number-index in
    let before : ArePreferred numbers (take i items) c.loop-number.found =
    subst (λ (xs : List ℕ). ArePreferred numbers (take i xs) c.loop-number.found) (sym c.items-number-items.ensures) c.loop-number.invariant in
    let one = take_more items i 0 c.loop-number-test.true in
    let after : ArePreferred numbers (take (i + 1) items) c.match-variable.found = elim c.match-variable.branch [
      | in-Some+in_ok-push w ↦ rw (one, w.found-is, w.in_ok-push.ensures.ok) (preferred_more numbers (take i items) c.loop-number.found (get_or items i 0) w.in-Some.variable (distinct_numbers c.args.members.now.catalog.now c.args.members.now.numbers.now c.args.members.now.sound) w.in-Some.ensures before)
      | in_default w ↦ rw (one, w.found-is) (preferred_same numbers (take i items) c.loop-number.found (get_or items i 0) w.in_default.ensures before)
    ] in
    subst (λ (xs : List ℕ). ArePreferred numbers (take (i + 1) xs) c.match-variable.found) c.items-number-items.ensures after

pub returns : goal.returns
returns c =
    let numbers : List ℕ = numbers_of c.args.members.now in
    let installed : List ℕ = c.args.installed.now in
    let i = c.loop-number.number-index in
    let end : length installed ≤ i = subst (λ (xs : List ℕ). length xs ≤ i) c.items-number-items.ensures c.loop-number-test.false in
    subst (λ (xs : List ℕ). ArePreferred numbers xs c.loop-number.found) (take_all i installed end) c.loop-number.invariant
