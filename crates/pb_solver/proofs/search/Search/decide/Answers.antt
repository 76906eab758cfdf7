use Rattle.std.proofs.Common.{◌≡◌, Bool, true, refl, sym, subst, arith}
use Rattle.pb_core.specs.Literal.{holds}
use Rattle.pb_solver.specs.SearchHolds.{wish_of}
use Rattle.pb_solver.proofs.SearchLaws.{moved, same_grown, SearchHolds-grown, wish_alone}
use Rattle.pb_solver.proofs.SpendingLaws.{spent_grown}
use Rattle.pb_solver.proofs.WishLaws.{Completes-decided, wish_holds}
use Rattle.pb_solver.proofs.search.Search.decide.Goals as goal

pub first_value-positive-requires : goal.first_value-positive-requires
first_value-positive-requires g c = omega (arith, c.requires.holds.wishes, c.requires.unassigned.within)

pub returns-clause-holds : goal.returns-clause-holds
returns-clause-holds g c =
    let P : Bool → Type 0 = λ b. holds (wish_of c.args.self.now) (record { variable = c.args.variable; positive = b }) ≡ true in
    record {
      holds = SearchHolds-grown c.args.self.now c.decide.new.self c.in_ok-found.found c.args.self.now.agenda c.requires.holds c.in_ok-found.ensures.holds c.in_ok-found.ensures.grows.extends (λ sat. Completes-decided (wish_of c.args.self.now) c.args.self.now.levels.trail c.decide.new.self.trail (record { variable = c.args.variable; positive = c.first_value-positive.result }) c.requires.holds.levels.good c.in_ok-found.ensures.holds.good c.in_ok-found.ensures.grows (subst P (sym (c.first_value-positive.ensures (c.requires.holds.wish sat).no_line)) (wish_holds (wish_of c.args.self.now) c.args.variable)) (wish_alone c.args.self.now c.requires.holds sat) (c.requires.holds.wish sat).agrees);
      settled = c.in_ok-found.ensures.found;
    }

pub returns-clause-steps : goal.returns-clause-steps
returns-clause-steps g c =
    spent_grown c.args.self.now (moved c.args.self.now c.decide.new.self c.in_ok-found.found c.args.self.now.agenda) c.args.steps.now c.decide.new.steps (same_grown c.args.self.now c.decide.new.self c.in_ok-found.found c.args.self.now.agenda c.in_ok-found.ensures.grows.extends) refl c.in_ok-found.ensures.grows.extends.constraints c.in_ok-found.ensures.steps
