use Rattle.std.proofs.Common.{◌<◌, ◌≤◌, ℕ, List, IsTrue, length, refl, subst, below_more, arith}
use Rattle.pb_encode.specs.InPlace.{IsInPlace}
use Rattle.pb_encode.proofs.OrderLaws.{members_are}
use Rattle.pb_encode.proofs.order.are_members.Goals as goal

pub loop-place-preserved : goal.loop-place-preserved
loop-place-preserved c =
    let here : IsTrue c.is_in_place.result = cc in
    below_more _ _ c.loop-place.invariant (c.is_in_place.ensures.0 here)

pub returns : goal.returns
returns c =
    let end : length c.items-numbers.result.now ≤ c.loop-place.place = c.loop-place-test.false in
    let few : length c.args.numbers.now ≤ 8192 = omega arith in
    let P : List ℕ → Type 0 = λ ns. (k : ℕ) → k < length ns → IsInPlace c.args.catalog.now ns k in
    (λ t. members_are c.args.catalog.now c.args.numbers.now few (subst P c.items-numbers.ensures (λ k h. c.loop-place.invariant k (omega arith))), λ are. refl)
