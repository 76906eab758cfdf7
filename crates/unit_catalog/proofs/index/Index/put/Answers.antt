use Rattle.std.proofs.Common.{◌≡◌, ℕ, ◌+◌, cond, List, [], ◌∷◌, ap, ◌∙◌, rules, Vec, Global}
use Rattle.std.specs.Prelude.{Some, Contains}
use Rattle.std.specs.Ordering.{nat_cmp}
use Rattle.std.specs.BTreeMap.{BTreeMap, get, is_at}
use Rattle.unit_catalog.specs.Listed.{RisesBelow}
use Rattle.unit_catalog.proofs.Listing.{at_every_key, rises_found, here_found, here_none, rises_same}
use Rattle.unit_catalog.proofs.Numbers.{rises_one}
use Rattle.unit_catalog.proofs.index.Index.put.Goals as goal

pub push_new-requires : goal.push_new-requires
push_new-requires c = rises_found (c.args.number + 1) c.args.self.now c.args.key c.in-Some.numbers.now c.in-Some.ensures.value (c.requires c.args.key)

pub returns-in_err-push_new-in-Some-clause-rising : goal.returns-in_err-push_new-in-Some-clause-rising
returns-in_err-push_new-in-Some-clause-rising c = λ q.
    let w = c.push_new.new.numbers in
    let R : List ℕ → List ℕ → Type 0 = λ xs ys. RisesBelow (c.args.number + 1) xs → RisesBelow (c.args.number + 1) ys in
    let updates = (c.get_mut.follows.holds w).3 (search rules) in
    at_every_key R (λ xs h. h) c.args.self.now (record { numbers = c.get_mut.follows.lender w }) c.args.key w updates.0 (λ h. c.push_new.ensures.rising) q (c.requires q)

pub returns-in_err-push_new-in-Some-clause-kept : goal.returns-in_err-push_new-in-Some-clause-kept
returns-in_err-push_new-in-Some-clause-kept c =
    let w = c.push_new.new.numbers in
    let R : List ℕ → List ℕ → Type 0 = λ xs ys. (n : ℕ) → Contains xs n → Contains ys n in
    let updates = (c.get_mut.follows.holds w).3 (search rules) in
    at_every_key R (λ xs n h. h) c.args.self.now (record { numbers = c.get_mut.follows.lender w }) c.args.key w updates.0
    (here_found R c.args.self.now c.args.key c.in-Some.numbers.now w.items c.in-Some.ensures.value c.push_new.ensures.kept)

pub returns-in_ok-push_new-in-Some-clause-rising : goal.returns-in_ok-push_new-in-Some-clause-rising
returns-in_ok-push_new-in-Some-clause-rising c = λ q.
    let w = c.push_new.new.numbers in
    let R : List ℕ → List ℕ → Type 0 = λ xs ys. RisesBelow (c.args.number + 1) xs → RisesBelow (c.args.number + 1) ys in
    let updates = (c.get_mut.follows.holds w).3 (search rules) in
    at_every_key R (λ xs h. h) c.args.self.now (record { numbers = c.get_mut.follows.lender w }) c.args.key w updates.0 (λ h. c.push_new.ensures.rising) q (c.requires q)

pub returns-in_ok-push_new-in-Some-clause-kept : goal.returns-in_ok-push_new-in-Some-clause-kept
returns-in_ok-push_new-in-Some-clause-kept c =
    let w = c.push_new.new.numbers in
    let R : List ℕ → List ℕ → Type 0 = λ xs ys. (n : ℕ) → Contains xs n → Contains ys n in
    let updates = (c.get_mut.follows.holds w).3 (search rules) in
    at_every_key R (λ xs n h. h) c.args.self.now (record { numbers = c.get_mut.follows.lender w }) c.args.key w updates.0
    (here_found R c.args.self.now c.args.key c.in-Some.numbers.now w.items c.in-Some.ensures.value c.push_new.ensures.kept)

pub returns-in_err-push-in-None-clause-rising : goal.returns-in_err-push-in-None-clause-rising
returns-in_err-push-in-None-clause-rising c = λ q. rw c.get_mut.follows.holds-at-none (c.requires q)

pub returns-in_err-insert-in-None-clause-rising : goal.returns-in_err-insert-in-None-clause-rising
returns-in_err-insert-in-None-clause-rising c = λ q.
    rises_same (c.args.number + 1) c.args.self.now (record { numbers = c.insert.new.self })
    (c.in_err-insert-in-None.ensures.err ∙ ap (λ (m : BTreeMap ℕ (Vec ℕ Global)). m.entries) c.get_mut.follows.holds-at-none) q (c.requires q)

pub returns-in_ok-insert-in-None-clause-rising : goal.returns-in_ok-insert-in-None-clause-rising
returns-in_ok-insert-in-None-clause-rising c = λ q.
    let w = c.push.new.self in
    let top = c.args.number + 1 in
    let R : List ℕ → List ℕ → Type 0 = λ xs ys. RisesBelow top xs → RisesBelow top ys in
    let items : w.items ≡ c.args.number ∷ [] = search rules in
    let updates : (k : ℕ) → get nat_cmp c.insert.new.self k ≡ cond (is_at (nat_cmp c.args.key) k) (Some w) (get nat_cmp c.args.self.now.numbers k) =
    λ k. c.in_ok-insert-in-None.ensures.updates.0 k ∙ ap (λ (m : BTreeMap ℕ (Vec ℕ Global)). cond (is_at (nat_cmp c.args.key) k) (Some w) (get nat_cmp m k)) c.get_mut.follows.holds-at-none in
    at_every_key R (λ xs h. h) c.args.self.now (record { numbers = c.insert.new.self }) c.args.key w updates (λ h. rw items (rises_one c.args.number)) q (c.requires q)

pub returns-in_ok-insert-in-None-clause-kept : goal.returns-in_ok-insert-in-None-clause-kept
returns-in_ok-insert-in-None-clause-kept c =
    let w = c.push.new.self in
    let R : List ℕ → List ℕ → Type 0 = λ xs ys. (n : ℕ) → Contains xs n → Contains ys n in
    let updates : (k : ℕ) → get nat_cmp c.insert.new.self k ≡ cond (is_at (nat_cmp c.args.key) k) (Some w) (get nat_cmp c.args.self.now.numbers k) =
    λ k. c.in_ok-insert-in-None.ensures.updates.0 k ∙ ap (λ (m : BTreeMap ℕ (Vec ℕ Global)). cond (is_at (nat_cmp c.args.key) k) (Some w) (get nat_cmp m k)) c.get_mut.follows.holds-at-none in
    at_every_key R (λ xs n h. h) c.args.self.now (record { numbers = c.insert.new.self }) c.args.key w updates (here_none c.args.self.now c.args.key w.items c.in-None.ensures.value)
