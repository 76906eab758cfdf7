use Rattle.std.proofs.Common.{sym, subst, ℕ, List, AllPairs, ◌≢◌}
use Rattle.pb_encode.proofs.MemberLaws.{distinct_numbers}
use Rattle.pb_encode.proofs.members.Members.new.Goals as goal

pub places-requires-clause-distinct : goal.places-requires-clause-distinct
places-requires-clause-distinct c =
    let P : List ℕ → Type 0 = λ ns. AllPairs (λ m n. m ≢ n) ns in
    subst P (sym c.items.ensures) (distinct_numbers c.args.catalog.now c.args.numbers.now c.requires)
