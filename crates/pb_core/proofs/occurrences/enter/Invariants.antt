use Rattle.std.proofs.Common.{◌≡◌, ◌<◌, [], ◌++◌, length, take, get_or}
use Rattle.pb_core.specs.KeptView.{lists_seen, place_of}
use Rattle.pb_core.specs.Occurrences.{own_occurrence}
use Rattle.pb_core.specs.Shares.{HaveRoom}
use Rattle.pb_core.specs.declared.literal.Lit.{Lit}
use Rattle.pb_core.proofs.occurrences.enter.Given as goal

abbrev pub invariant-loop-term : goal.invariant-loop-term
invariant-loop-term l =
    ((lit : Lit) → 0 < lit.variable → place_of lit < length l.initial.lists → get_or (lists_seen l.lists) (place_of lit) [] ≡ get_or (lists_seen l.initial.lists) (place_of lit) [] ++ own_occurrence l.number lit (take l.term-index l.terms))
    × HaveRoom l.lists l.terms l.term-index
