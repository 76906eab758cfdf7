use Rattle.std.proofs.Common.{arith}
use Rattle.unit_catalog.proofs.Numbers.{rises_higher}
use Rattle.unit_catalog.proofs.indexes.Indexes.new.Goals as goal

pub returns : goal.returns
returns c = record {
  rise = record {
    names = λ key. rises_higher 0 1 _ (omega arith) (c.new-names.ensures key);
    ids = λ key. rises_higher 0 1 _ (omega arith) (c.new-ids.ensures key);
    updates = λ key. rises_higher 0 1 _ (omega arith) (c.new-updates.ensures key);
    provided = λ key. rises_higher 0 1 _ (omega arith) (c.new-provided.ensures key);
  };
  lead = λ n u here. absurd (cc);
}
