-- What is known of members as units.
use Rattle.std.proofs.Common.{◌≡◌, ◌≤◌, length, AllPairs, arith}
use Rattle.std.specs.declared.cmp.Ordering.TheVariants.{Less}
use Rattle.unit_catalog.specs.Order.{by_id}
use Rattle.pb_encode.specs.UnitsOf.{units_of}
use Rattle.pb_encode.specs.declared.members.Members.{Members}
use Rattle.pb_encode.proofs.MemberLaws.{length_members, pairs_before}

pub few_units : (m : Members) → length (units_of m) ≤ 8192
few_units m =
    let same = length_members m.catalog.now m.numbers.now m.sound.there in
    let few = m.sound.few in
    omega (arith, same, few)

pub units_rise : (m : Members) → AllPairs (λ u v. by_id u.name v.name ≡ Less) (units_of m)
units_rise m = pairs_before m.catalog.now m.numbers.now m.sound
