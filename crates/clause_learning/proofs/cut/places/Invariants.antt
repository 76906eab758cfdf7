use Rattle.std.proofs.Common.{◌≡◌, ℕ, ◌+◌, ◌<◌, length, get_or}
use Rattle.pb_trail.specs.declared.trail.Entry.{Entry}
use Rattle.clause_learning.specs.Marks.{place_in}
use Rattle.clause_learning.proofs.cut.places.Given as goal

abbrev pub invariant-loop-place : goal.invariant-loop-place
invariant-loop-place l = record {
  size : length l.places.items ≡ length l.trail.kept.values + 1;
  placed : (k : ℕ) (d : Entry) → k < l.place → place_in l.places.items (get_or l.trail.entries.items k d).lit.variable ≡ k;
}
