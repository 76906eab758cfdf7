use Rattle.std.proofs.Common.{◌≤◌, ℕ, ◌+◌, List, length, get_or, take, take_all, sym, subst}
use Rattle.std.specs.Prelude.{Contains}
use Rattle.std.proofs.lemmas.List.{take_more}
use Rattle.unit_slicer.specs.WholeCatalog.{IsPart}
use Rattle.unit_slicer.proofs.RootedLaws.{part_more, part_less}
use Rattle.unit_slicer.proofs.rooting.kept.Goals as goal
use Rattle.unit_slicer.proofs.rooting.kept.Goals.{then-has+in_ok-push, else-has}

pub loop-number-preserved : goal.loop-number-preserved
loop-number-preserved c =
    let found : List ℕ = c.args.found.now.found in
    let items : List ℕ = c.items-number-items.result.now in
    let i = c.loop-number.number-index in
    let before : IsPart (Contains found) (take i items) c.loop-number.kept =
    subst (λ (xs : List ℕ). IsPart (Contains found) (take i xs) c.loop-number.kept) (sym c.items-number-items.ensures) c.loop-number.invariant in
    let one = take_more items i 0 c.loop-number-test.true in
    let after : IsPart (Contains found) (take (i + 1) items) c.if-has.kept = elim c.if-has.branch [
      | then-has+in_ok-push w ↦ rw (one, w.kept-is, w.in_ok-push.ensures.ok) (part_more (Contains found) (take i items) c.loop-number.kept (get_or items i 0) (c.has.ensures.0 w.if-has.true) before)
      | else-has w ↦ rw (one, w.kept-is) (part_less (Contains found) (take i items) c.loop-number.kept (get_or items i 0) (λ there. let yes = c.has.ensures.1 there in let no = w.if-has.false in cc) before)
    ] in
    subst (λ (xs : List ℕ). IsPart (Contains found) (take (i + 1) xs) c.if-has.kept) c.items-number-items.ensures after

pub returns : goal.returns
returns c =
    let found : List ℕ = c.args.found.now.found in
    let numbers : List ℕ = c.args.numbers.now in
    let i = c.loop-number.number-index in
    let end : length numbers ≤ i = subst (λ (xs : List ℕ). length xs ≤ i) c.items-number-items.ensures c.loop-number-test.false in
    subst (λ (xs : List ℕ). IsPart (Contains found) xs c.loop-number.kept) (take_all i numbers end) c.loop-number.invariant
