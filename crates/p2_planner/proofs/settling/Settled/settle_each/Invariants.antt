use Rattle.std.proofs.Common.{take}
use Rattle.unit_catalog.specs.Order.{units_at}
use Rattle.p2_planner.specs.Attempting.{IsFitting}
use Rattle.p2_planner.specs.Settling.{AreSettled}
use Rattle.p2_planner.proofs.settling.Settled.settle_each.Given as goal

-- the optional roots so far are settled
abbrev pub invariant-loop-root : goal.invariant-loop-root
invariant-loop-root l = record {
  fits : IsFitting l.ask l.self.roots l.self.chosen;
  settled : AreSettled (units_at l.ask.catalog.now l.ask.slice.now) l.ask.env.now l.ask.budget l.initial.self.roots (take l.root-index l.optional) l.self.roots l.self.left;
}
