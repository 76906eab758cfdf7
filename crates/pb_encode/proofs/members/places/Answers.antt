use Rattle.std.proofs.Common.{◌≡◌, ◌<◌, length, get_or, arith}
use Rattle.pb_encode.proofs.PlaceLaws.{places_next}
use Rattle.pb_encode.proofs.members.places.Goals as goal

pub loop-place-preserved : goal.loop-place-preserved
loop-place-preserved c =
    let here = c.loop-place-test.true in
    let unit : get_or c.args.numbers.now c.loop-place.place 0 < c.args.units = c.requires.within c.loop-place.place 0 here in
    let long : length c.loop-place.places.items ≡ c.args.units = omega (arith, c.loop-place.places.ok, c.loop-place.invariant.sized) in
    let within : get_or c.args.numbers.now c.loop-place.place 0 < length c.loop-place.places.items = omega arith in
    record {
      sized = c.loop-place.invariant.sized;
      placed = places_next c.args.numbers.now c.loop-place.places.items c.loop-place.place here within c.requires.distinct c.loop-place.invariant.placed;
    }
