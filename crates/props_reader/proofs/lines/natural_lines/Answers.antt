use Rattle.std.proofs.Common.{◌<◌, length, arith}
use Rattle.std.proofs.lemmas.Grind.{common_steps}
use Rattle.props_reader.proofs.LineLemmas.{natural_lines-cut, lines_behind-some, lines_behind-none}
use Rattle.props_reader.proofs.lines.natural_lines.Goals as goal

pub lines-preserved : goal.lines-preserved
lines-preserved c =
    let end = c.split_at.result.1.now in
    let first = natural_lines-cut c.lines.rest.now c.split_at.result.0.now end _ c.line_length.ensures.value c.split_at.ensures.front c.split_at.ensures.back in
    let some : 0 < length end = grind arith in
    let behind = lines_behind-some end some in
    grind (arith, common_steps)

pub returns-then-is_empty : goal.returns-then-is_empty
returns-then-is_empty c =
    let end = c.split_at.result.1.now in
    let first = natural_lines-cut c.lines.rest.now c.split_at.result.0.now end _ c.line_length.ensures.value c.split_at.ensures.front c.split_at.ensures.back in
    let behind = lines_behind-none end (grind arith) in
    grind (arith, common_steps)
