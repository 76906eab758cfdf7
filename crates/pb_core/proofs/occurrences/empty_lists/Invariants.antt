use Rattle.std.proofs.Common.{◌≡◌, [], replicate}
use Rattle.pb_core.specs.KeptView.{lists_seen}
use Rattle.pb_core.proofs.occurrences.empty_lists.Given as goal

abbrev pub invariant-loop-place : goal.invariant-loop-place
invariant-loop-place l = lists_seen l.lists.items ≡ replicate l._place []
