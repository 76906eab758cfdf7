use Rattle.std.proofs.Common.{◌≡◌, ◌++◌}
use Rattle.std.specs.Prelude.{map}
use Rattle.install_journal.proofs.ReadingLists.{listed}
use Rattle.install_journal.proofs.reading.in_order.Given as goal

abbrev pub invariant-loop-path : goal.invariant-loop-path
invariant-loop-path l = l.list ++ map listed l.path-iterator ≡ map listed l.fn.firsts.entries
