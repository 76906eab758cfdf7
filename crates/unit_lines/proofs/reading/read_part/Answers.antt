use Rattle.std.proofs.Common.{[], ◌-◌, length, sym, ap, ◌∙◌, arith}
use Rattle.unit_lines.specs.Line.{seen}
use Rattle.unit_lines.proofs.WordLemmas.{line_reads, seen_cut}
use Rattle.unit_lines.proofs.reading.read_part.Goals as goal

pub returns-in-len1-up : goal.returns-in-len1-up
returns-in-len1-up c =
    let pieces = c.as_slice.result.now in
    let some = c.in-len1-up.len_at_least in
    line_reads c.args.line.now _ _
    (sym c.in_ok-pieces.ensures ∙ (ap seen (sym c.as_slice.ensures.value) ∙ seen_cut pieces (record { ref_ptr = (0, 0); now = [] }) (length pieces - 1) some (omega (arith, some))))
    c.worded_part.result c.worded_part.ensures
