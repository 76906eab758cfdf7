use Rattle.std.proofs.Common.{ℕ, ◌+◌, ◌<◌, List, rules}
use Rattle.std.specs.Prelude.{Contains}
use Rattle.unit_catalog.specs.Listed.{RisesBelow}
use Rattle.unit_catalog.proofs.Listing.{at_every_key, rises_found, here_found}
use Rattle.unit_catalog.proofs.index.Index.take_out.Goals as goal

pub pop_number-requires : goal.pop_number-requires
pop_number-requires c = rises_found (c.args.number + 1) c.args.self.now c.args.key c.in-Some.numbers.now c.in-Some.ensures.value (c.requires c.args.key)

pub returns-in-Some-clause-rising : goal.returns-in-Some-clause-rising
returns-in-Some-clause-rising c = λ q.
    let w = c.pop_number.new.numbers in
    let R : List ℕ → List ℕ → Type 0 = λ xs ys. RisesBelow (c.args.number + 1) xs → RisesBelow (c.args.number + 1) ys in
    let updates = (c.get_mut.follows.holds w).3 (search rules) in
    at_every_key R (λ xs h. h) c.args.self.now (record { numbers = c.get_mut.follows.lender w }) c.args.key w updates.0 (λ h. c.pop_number.ensures.rising) q (c.requires q)

pub returns-in-Some-clause-kept : goal.returns-in-Some-clause-kept
returns-in-Some-clause-kept c =
    let w = c.pop_number.new.numbers in
    let R : List ℕ → List ℕ → Type 0 = λ xs ys. (n : ℕ) → n < c.args.number → Contains xs n → Contains ys n in
    let updates = (c.get_mut.follows.holds w).3 (search rules) in
    at_every_key R (λ xs n below h. h) c.args.self.now (record { numbers = c.get_mut.follows.lender w }) c.args.key w updates.0
    (here_found R c.args.self.now c.args.key c.in-Some.numbers.now w.items c.in-Some.ensures.value c.pop_number.ensures.kept)

pub returns-in_default-clause-rising : goal.returns-in_default-clause-rising
returns-in_default-clause-rising c = λ q. rw c.get_mut.follows.holds-at-none (c.requires q)
