use Rattle.std.proofs.Common.{ℕ, List, [], ◌∷◌, ◌++◌, codes, ap, sym, ◌∙◌}
use Rattle.osgi_version.specs.Field.{field}
use Rattle.deriv_check.proofs.WritingLaws.{join_two, label_spelled}
use Rattle.deriv_check.proofs.evidence_writer.push_label.Goals as goal

pub returns-clause-spelled : goal.returns-clause-spelled
returns-clause-spelled c =
    let o = c.args.text.now.items in
    let w = field c.args.label.now in
    let a = join_two o (codes "v ") w c.extend_from_slice.new.self.items c.push_text.new.line.items c.in_ok-extend_from_slice.ensures.items c.in_ok-push_text.ensures.spelled in
    join_two o (codes "v " ++ w) (10 ∷ []) c.push_text.new.line.items c.push.new.self.items a c.in_ok-push.ensures.items
    ∙ ap (λ (l : List ℕ). o ++ (l ++ 10 ∷ [])) (sym (label_spelled c.args.label.now))
