use Rattle.std.proofs.Common.{◌≤◌, ◌+◌, length, drop, sym, ap, ◌∙◌, arith}
use Rattle.instr_text.specs.Cut.{seen}
use Rattle.instr_parser.specs.Path.{all_names}
use Rattle.instr_parser.proofs.NameForms.{names_with, name_taken, name_refused, all_names-none}
use Rattle.instr_parser.proofs.path.all_names.Goals as goal

pub returns-in_default : goal.returns-in_default
returns-in_default c =
    sym (name_refused c.loop-text.names c.args.texts.now c.loop-text.text-index _ c.loop-text-test.true (sym c.in_default.is ∙ c.in_ok-name.ensures)) ∙ c.loop-text.invariant

pub loop-text-preserved : goal.loop-text-preserved
loop-text-preserved c =
    ap (λ names. names_with names (all_names (seen (drop (c.loop-text.text-index + 1) c.args.texts.now)))) c.in_ok-push.ensures.ok
    ∙ (name_taken c.loop-text.names c.args.texts.now c.loop-text.text-index _ c.in-Some.name c.loop-text-test.true (sym c.in-Some.is ∙ c.in_ok-name.ensures) ∙ c.loop-text.invariant)

pub returns : goal.returns
returns c =
    let past : length c.args.texts.now ≤ c.loop-text.text-index = omega arith in
    sym (all_names-none c.loop-text.names c.args.texts.now c.loop-text.text-index past) ∙ c.loop-text.invariant
