use Rattle.std.proofs.Common.{◌≡◌, ℕ, ◌<◌, slice_index_or}
use Rattle.std.specs.Prelude.{Contains}
use Rattle.unit_judge.specs.Reaching.{Marks, HasMarked}
use Rattle.unit_judge.proofs.reaching.Reached.reach_all.Given as goal

-- the numbers so far are marked
abbrev pub invariant-loop-number : goal.invariant-loop-number
invariant-loop-number l = record {
  marks : Marks (Contains l.numbers) l.initial.self l.self;
  has : (k d : ℕ) → k < l.number-index → HasMarked (λ n. n ≡ slice_index_or l.numbers k d) l.self;
}
