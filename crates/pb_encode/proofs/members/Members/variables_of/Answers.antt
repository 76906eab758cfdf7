use Rattle.std.proofs.Common.{take, get_or}
use Rattle.std.proofs.lemmas.List.{take_more}
use Rattle.pb_encode.proofs.FoundLaws.{found_more, found_same, below_later}
use Rattle.pb_encode.proofs.MemberLaws.{distinct_numbers}
use Rattle.pb_encode.proofs.members.Members.variables_of.Goals as goal
use Rattle.pb_encode.proofs.members.Members.variables_of.Goals.{in-Some+in_ok-push, in_default}

pub loop-number-preserved : goal.loop-number-preserved
loop-number-preserved c =
    let self = c.args.self.now in
    let i = c.loop-number.number-index in
    let given = c.args.numbers.now in
    let here = c.loop-number-test.true in
    let one = take_more given i 0 here in
    elim c.match-variable.branch [
      | in-Some+in_ok-push w ↦
          rw (one, w.found-is, w.in_ok-push.ensures.items)
          (found_more self.numbers.now (take i given) c.loop-number.found.items (get_or given i 0) w.in-Some.variable (distinct_numbers self.catalog.now self.numbers.now self.sound) (below_later given i 0 c.requires here) w.in-Some.ensures c.loop-number.invariant)
      | in_default w ↦
          rw (one, w.found-is) (found_same self.numbers.now (take i given) c.loop-number.found.items (get_or given i 0) w.in_default.ensures c.loop-number.invariant)
    ]
