use Rattle.std.proofs.Common.{◌≡◌, drop}
use Rattle.director_source.specs.Gathering.{IsGathering}
use Rattle.director_source.specs.Source.{added}
use Rattle.director_source.proofs.gathering.Gathering.add_all.Given as goal

-- the units so far, and those that are left
abbrev pub invariant-loop-unit : goal.invariant-loop-unit
invariant-loop-unit l = record {
  gathering : IsGathering l.self;
  same : l.self.bytes ≡ l.fn.self.bytes;
  gives : added l.self.catalog (drop l.unit-index l.unit-items) ≡ added l.fn.self.catalog l.unit-items;
}
