use Rattle.std.proofs.Common.{ℕ, List, [], ◌∷◌, ◌++◌, codes, ap, sym, ◌∙◌}
use Rattle.std.specs.Fmt.{decimal}
use Rattle.deriv_check.proofs.WritingLaws.{join_two, derivation_spelled}
use Rattle.deriv_check.proofs.evidence_writer.push_derivation_line.Goals as goal

pub returns : goal.returns
returns c =
    let o = c.args.text.now.items in
    let w = decimal c.args.lines in
    let a = join_two o (codes "derivation ") w c.extend_from_slice.new.self.items c.push_wide.new.line.items c.in_ok-extend_from_slice.ensures.items c.in_ok-push_wide.ensures in
    join_two o (codes "derivation " ++ w) (10 ∷ []) c.push_wide.new.line.items c.push.new.self.items a c.in_ok-push.ensures.items
    ∙ ap (λ (l : List ℕ). o ++ (l ++ 10 ∷ [])) (sym (derivation_spelled c.args.lines))
