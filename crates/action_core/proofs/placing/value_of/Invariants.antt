use Rattle.std.proofs.Common.{◌≡◌, drop}
use Rattle.action_core.specs.Places.{value_in}
use Rattle.action_core.proofs.placing.value_of.Given as goal

abbrev pub invariant-loop-param : goal.invariant-loop-param
invariant-loop-param l = value_in (drop l.param-index l.params) l.code ≡ value_in l.params l.code
