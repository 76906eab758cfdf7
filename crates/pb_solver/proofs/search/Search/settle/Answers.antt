use Rattle.std.proofs.Common.{refl}
use Rattle.pb_solver.specs.SearchHolds.{wish_of}
use Rattle.pb_solver.proofs.SearchLaws.{moved, same_grown, SearchHolds-grown, wish_alone}
use Rattle.pb_solver.proofs.SpendingLaws.{spent_grown}
use Rattle.pb_solver.proofs.WishLaws.{Completes-grown}
use Rattle.pb_solver.proofs.search.Search.settle.Goals as goal

pub returns-clause-holds : goal.returns-clause-holds
returns-clause-holds g c = record {
  holds = SearchHolds-grown c.args.self.now c.settle-self.new.self c.settle-self.result c.args.self.now.agenda c.requires.holds c.settle-self.ensures.holds c.settle-self.ensures.grows.extends (λ sat. Completes-grown (wish_of c.args.self.now) c.args.self.now.levels.trail c.settle-self.new.self.trail c.requires.holds.levels.good c.settle-self.ensures.holds.good c.settle-self.ensures.grows (wish_alone c.args.self.now c.requires.holds sat) (c.requires.holds.wish sat).agrees);
  settled = c.settle-self.ensures.found;
}

pub returns-clause-same : goal.returns-clause-same
returns-clause-same g c = same_grown c.args.self.now c.settle-self.new.self c.settle-self.result c.args.self.now.agenda c.settle-self.ensures.grows.extends

pub returns-clause-steps : goal.returns-clause-steps
returns-clause-steps g c =
    spent_grown c.args.self.now (moved c.args.self.now c.settle-self.new.self c.settle-self.result c.args.self.now.agenda) c.args.steps.now c.settle-self.new.steps (same_grown c.args.self.now c.settle-self.new.self c.settle-self.result c.args.self.now.agenda c.settle-self.ensures.grows.extends) refl c.settle-self.ensures.grows.extends.constraints c.settle-self.ensures.steps
