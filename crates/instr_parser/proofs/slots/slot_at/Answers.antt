use Rattle.std.proofs.Common.{◌==◌, ◌∙◌, rules, tests}
use Rattle.std.proofs.lemmas.Iterator.{YieldsList-from_slice}
use Rattle.std.proofs.lemmas.Iterator.Search.{find_from_yields_List}
use Rattle.instr_parser.proofs.slots.slot_at.Goals as goal

pub returns : goal.returns
returns c =
    c.copied.ensures
    ∙ find_from_yields_List (λ slot. slot.code == c.args.code) _ _ c.find.result c.find.ensures.ran (YieldsList-from_slice c.args.slots.now cc) (λ x b q k. search (rules, tests))
