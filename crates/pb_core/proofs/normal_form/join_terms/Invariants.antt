use Rattle.std.proofs.Common.{take, drop}
use Rattle.pb_core.proofs.JoinedLaws.{AreJoined}
use Rattle.pb_core.proofs.normal_form.join_terms.Given as goal

abbrev pub invariant-loop-term : goal.invariant-loop-term
invariant-loop-term l = AreJoined l.terms (take l.term-index l.terms) (drop l.term-index l.terms) l.joined.items l.current
