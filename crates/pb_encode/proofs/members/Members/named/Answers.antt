use Rattle.pb_encode.proofs.FoundLaws.{new_named, found_named}
use Rattle.pb_encode.proofs.members.Members.named.Goals as goal

pub returns-in-Some : goal.returns-in-Some
returns-in-Some c =
    found_named c.args.self.now.catalog.now c.args.self.now.numbers.now c.args.name.now c.in-Some.number c.variable.result c.args.self.now.sound c.find.ensures.distinct c.in-Some.ensures.found c.variable.ensures

pub returns-in-None : goal.returns-in-None
returns-in-None c = new_named c.args.self.now.catalog.now c.args.self.now.numbers.now c.args.name.now c.args.self.now.sound c.in-None.ensures.found
