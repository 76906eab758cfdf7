use Rattle.std.proofs.Common.{◌<◌, ℕ, length, arith}
use Rattle.pb_encode.specs.UnitsOf.{units_of}
use Rattle.pb_encode.specs.declared.members.Members.{Members}
use Rattle.pb_encode.proofs.MemberLaws.{length_members, has_unit, member_here}
use Rattle.pb_encode.proofs.members.Members.unit.Goals as goal

within : (m : Members) (k : ℕ) → k < length (units_of m) → k < length m.numbers.now
within m k h = let same = length_members m.catalog.now m.numbers.now m.sound.there in omega (arith, same)

pub offset_bounds-self-place : goal.offset_bounds-self-place
offset_bounds-self-place c =
    let h = within c.args.self.now c.args.place c.requires in
    let few = c.args.self.now.sound.few in
    omega (arith, h, few)

pub bounds-self-place : goal.bounds-self-place
bounds-self-place c = within c.args.self.now c.args.place c.requires

pub unreachable-requires : goal.unreachable-requires
unreachable-requires c = has_unit c.args.self.now.catalog.now c.args.self.now.numbers.now c.args.place c.args.self.now.sound (within c.args.self.now c.args.place c.requires) c.in-None.ensures

pub returns : goal.returns
returns c = member_here c.args.self.now.catalog.now c.args.self.now.numbers.now c.args.place c.in-Some.unit.now c.args.self.now.sound (within c.args.self.now c.args.place c.requires) c.in-Some.ensures
