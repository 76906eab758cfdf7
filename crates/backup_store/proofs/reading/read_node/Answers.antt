use Rattle.std.proofs.Common.{sym, ◌∙◌}
use Rattle.std.proofs.lemmas.Bool.{both_ways}
use Rattle.std.proofs.lemmas.Bool.Decides.{Decides-eqb}
use Rattle.std.proofs.lemmas.Slice.Eq.{slice_eq-Decides}
use Rattle.backup_store.proofs.Readings.{dir_found, no_node}
use Rattle.backup_store.proofs.reading.read_node.Goals as goal

pub returns-then-eq : goal.returns-then-eq
returns-then-eq c = dir_found c.args.bytes.now ((slice_eq-Decides Decides-eqb _ _ _ c.eq.ensures).0 c.if-eq.true ∙ c.as_slice.ensures)

pub returns-in-None : goal.returns-in-None
returns-in-None c =
    no_node c.args.bytes.now (λ is. both_ways _ c.if-eq.false ((slice_eq-Decides Decides-eqb _ _ _ c.eq.ensures).1 (is ∙ sym c.as_slice.ensures))) c.in_default.ensures c.in-None.ensures
