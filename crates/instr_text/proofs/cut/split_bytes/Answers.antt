use Rattle.std.proofs.Common.{rules, tests, ◌==◌, ap, ◌∙◌}
use Rattle.std.proofs.lemmas.Iterator.Consumers.{map_from_collect}
use Rattle.std.proofs.lemmas.Iterator.Splits.{YieldsList-from_slice_split}
use Rattle.instr_text.specs.Cut.{sizes}
use Rattle.instr_text.proofs.SplitLemmas.{sizes-split}
use Rattle.instr_text.proofs.cut.split_bytes.Goals as goal

pub returns-clause-value : goal.returns-clause-value
returns-clause-value c = rw c.in_ok-parts.was at (map_from_collect _ c.collect.ensures.ran (YieldsList-from_slice_split _ (λ b. b == c.args.mark) c.args.bytes.now c.split.ensures.rest c.split.ensures.done c.split.ensures.closure (λ x r q k. search (rules, tests))))

pub returns-clause-sizes : goal.returns-clause-sizes
returns-clause-sizes c = ap sizes (returns-clause-value c) ∙ sizes-split (λ b. b == c.args.mark) c.args.bytes.now
