use Rattle.std.proofs.Common.{◌≡◌, ◌+◌, ◌≤◌, length, take}
use Rattle.pb_trail.specs.Along.{weight}
use Rattle.pb_trail.specs.Trail.{IsTrail}
use Rattle.pb_trail.proofs.trail.Trail.take_back.Given as goal

abbrev pub invariant-loop-self : goal.invariant-loop-self
invariant-loop-self g l = record {
  good : IsTrail l.self;
  constraints : l.self.kept.constraints ≡ l.initial.self.kept.constraints;
  variables : length l.self.kept.values ≡ length l.initial.self.kept.values;
  entries : l.self.entries.items ≡ take (length l.self.entries.items) l.initial.self.entries.items;
  above : l.count ≤ length l.self.entries.items;
  steps : l.steps + weight l.initial.self.kept.constraints l.self.entries.items ≡ l.initial.steps + weight l.initial.self.kept.constraints l.initial.self.entries.items;
}

abbrev pub decreases-loop-self : goal.decreases-loop-self
decreases-loop-self g l = length l.self.entries.items
