use Rattle.std.proofs.Common.{arith}
use Rattle.pb_encode.proofs.MemberLaws.{length_members}
use Rattle.pb_encode.proofs.members.Members.len.Goals as goal

pub returns-clause-value : goal.returns-clause-value
returns-clause-value c =
    let same = length_members c.args.self.now.catalog.now c.args.self.now.numbers.now c.args.self.now.sound.there in
    omega (arith, same)
