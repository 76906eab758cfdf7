use Rattle.std.proofs.Common.{◌≡◌, ℕ, List, length, AllPairs, ◌<◌, sym, subst, arith}
use Rattle.unit_catalog.specs.Providers.{AreProviders}
use Rattle.pb_rows.specs.Deciding.{matches}
use Rattle.pb_rows.specs.Members.{variables}
use Rattle.unit_catalog.specs.Order.{units_at}
use Rattle.pb_encode.proofs.FoundLaws.{matching_is, few_variables}
use Rattle.pb_encode.proofs.MemberLaws.{length_members}
use Rattle.pb_encode.proofs.members.Members.matching.Goals as goal

pub variables_of-requires : goal.variables_of-requires
variables_of-requires c =
    let P : List ℕ → Type 0 = λ ns. AllPairs (λ m n. m < n) ns in
    subst P (sym c.items.ensures) c.in_ok-providers.ensures.rising

are_variables : (c : goal.After-drop-providers-inside-2) → c.sort_unstable.new.self.items ≡ variables (matches c.args.required.now) (units_at c.args.self.now.catalog.now c.args.self.now.numbers.now)
are_variables c =
    let P : List ℕ → Type 0 = λ ns. AreProviders c.args.self.now.catalog.now c.args.required.now ns in
    matching_is c.args.self.now.catalog.now c.args.self.now.numbers.now c.args.required.now c.items.result.now c.in_ok-found.found.items c.sort_unstable.new.self.items c.args.self.now.sound
    (subst P (sym c.items.ensures) c.in_ok-providers.ensures) c.in_ok-found.ensures c.sort_unstable.ensures.permutation c.sort_unstable.ensures.sorted

pub returns-clause-value : goal.returns-clause-value
returns-clause-value c = are_variables c

pub returns-clause-few : goal.returns-clause-few
returns-clause-few c =
    let is = are_variables c in
    let members = units_at c.args.self.now.catalog.now c.args.self.now.numbers.now in
    let same = length_members c.args.self.now.catalog.now c.args.self.now.numbers.now c.args.self.now.sound.there in
    let short = few_variables (matches c.args.required.now) members in
    let few = c.args.self.now.sound.few in
    let long : length c.sort_unstable.new.self.items ≡ length (variables (matches c.args.required.now) members) = λ i. length (is i) in
    omega (arith, same, short, few, long, c.sort_unstable.new.self.ok)
