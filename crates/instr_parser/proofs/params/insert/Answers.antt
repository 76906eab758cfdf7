use Rattle.std.proofs.Common.{nat_lt, sym, ap, ◌∙◌}
use Rattle.std.specs.List.{insert, prefix_len}
use Rattle.instr_parser.proofs.ParamSteps.{inserted-at}
use Rattle.instr_parser.proofs.params.insert.Goals as goal

pub returns : goal.returns
returns c =
    let place = c.place_of-place.ensures.value ∙ ap (λ ps. prefix_len (λ p. nat_lt p.code c.args.param.code) ps) c.deref.ensures.value in
    c.in_ok-insert.ensures.items
    ∙ (ap (λ n. insert c.args.given.now.items n c.args.param) place ∙ sym (inserted-at c.args.param c.args.given.now.items))
