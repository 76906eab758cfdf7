use Rattle.std.proofs.Common.{length, ap, arith}
use Rattle.pb_core.proofs.KeptChanges.{keepable_clause}
use Rattle.pb_core.proofs.kept.Kept.add.Goals as goal

pub append-requires-clause-keepable : goal.append-requires-clause-keepable
append-requires-clause-keepable c =
    rw (c.in_ok-terms.ensures, c.items.ensures) (keepable_clause _ c.args.lits.now c.requires.among c.requires.distinct (let big = c.items.type_inv in let same = c.items.ensures in omega (arith, big, same, ap length c.items.ensures)))
