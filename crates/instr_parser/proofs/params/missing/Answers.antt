use Rattle.std.proofs.Common.{◌∙◌, rules, tests}
use Rattle.std.proofs.lemmas.Iterator.{YieldsList-from_slice}
use Rattle.std.proofs.lemmas.Iterator.Search.{find_from_yields_List}
use Rattle.instr_parser.specs.Params.{is_missing}
use Rattle.instr_parser.proofs.params.missing.Goals as goal

pub returns : goal.returns
returns c =
    c.copied.ensures
    ∙ find_from_yields_List (is_missing c.args.given.now) _ _ c.find.result c.find.ensures.ran (YieldsList-from_slice c.args.slots.now cc) (λ x b q k. search (rules, tests))
