use Rattle.std.proofs.Common.{◌≡◌, ℕ, ◌<◌, get_or}
use Rattle.pb_core.specs.KeptView.{lists_seen, place_of}
use Rattle.pb_core.specs.Shares.{HasRoom}
use Rattle.pb_core.specs.declared.literal.Term.{Term}
use Rattle.pb_core.proofs.occurrences.make_room.Given as goal

abbrev pub invariant-loop-term : goal.invariant-loop-term
invariant-loop-term l =
    (lists_seen l.lists ≡ lists_seen l.initial.lists) × ((k : ℕ) (d : Term) → k < l.term-index → HasRoom l.lists (place_of (get_or l.terms k d).lit))
