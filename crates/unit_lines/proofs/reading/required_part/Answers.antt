use Rattle.std.proofs.Common.{refl, ◌∙◌}
use Rattle.unit_lines.proofs.WordLemmas.{seven}
use Rattle.unit_lines.proofs.reading.required_part.Goals as goal

pub returns-in-Some : goal.returns-in-Some
returns-in-Some c =
    let read = rw c.in-Some.is at c.in_ok-required.ensures in (
      record { is = refl; form = read.0 },
      read.1 ∙ seven c.args.texts.now _ _ _ _ _ _ _ c.in-len7.len_at_least c.in-len7.len_below
          c.namespace-item.is c.name-item.is c.range-item.is c.min-item.is c.max-item.is c.greedy-item.is c.filter-item.is,
    )
