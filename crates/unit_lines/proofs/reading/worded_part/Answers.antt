use Rattle.std.proofs.Common.{sym, ◌∙◌}
use Rattle.unit_lines.specs.Line.{seen}
use Rattle.unit_lines.proofs.WordLemmas.{worded_reads}
use Rattle.unit_lines.proofs.reading.worded_part.Goals as goal

pub returns-in-Some-2 : goal.returns-in-Some-2
returns-in-Some-2 c =
    let read = rw c.in-Some-2.is at c.in_ok-texts.ensures in
    worded_reads c.args.word.now (seen c.args.fields.now) c.in-Some.kind c.in-Some-2.texts (sym c.in-Some.is ∙ c.find_kind.ensures) read.0 read.1
    c.part_of.result (rw c.items.ensures at c.part_of.ensures)
