use Rattle.std.proofs.Common.{take, drop}
use Rattle.pb_core.proofs.SplitLaws.{AreSplit}
use Rattle.pb_core.proofs.normal_form.positive_terms.Given as goal

abbrev pub invariant-loop-one : goal.invariant-loop-one
invariant-loop-one l = AreSplit l.joined (take l.one-index l.joined) (drop l.one-index l.joined) l.terms.items l.degree l.left
