use Rattle.std.proofs.Common.{[], arith, sym, subst}
use Rattle.std.specs.Str.{IsAscii}
use Rattle.inf_keys.specs.KeyText.{owner_text}
use Rattle.inf_keys.proofs.AsciiLemmas.{unit_ascii}
use Rattle.inf_keys.proofs.write.push_owner.Goals as goal

pub returns-in-Unit-clause-ascii : goal.returns-in-Unit-clause-ascii
returns-in-Unit-clause-ascii c = subst (λ o. IsAscii (owner_text o [])) (sym c.in-Unit.is) (unit_ascii c.in-Unit.unit (omega arith))
