use Rattle.std.proofs.Common.{ℕ, List, [], ◌∷◌, ◌++◌, codes, ap, sym, ◌∙◌}
use Rattle.std.specs.Fmt.{decimal}
use Rattle.deriv_check.proofs.WritingLaws.{join_two, regroup_three, problem_spelled}
use Rattle.deriv_check.proofs.evidence_writer.push_problem_line.Goals as goal

pub returns : goal.returns
returns c =
    let o = c.args.text.now.items in
    let p = codes "problem " in
    let n = decimal c.args.labels in
    let m = decimal c.args.constraints in
    let a = join_two o p n c.extend_from_slice.new.self.items c.push_wide.new.line.items c.in_ok-extend_from_slice.ensures.items c.in_ok-push_wide.ensures in
    let b = join_two o (p ++ n) (32 ∷ []) c.push_wide.new.line.items c.push.new.self.items a c.in_ok-push.ensures.items in
    let d = join_two o ((p ++ n) ++ 32 ∷ []) m c.push.new.self.items c.push_wide-2.new.line.items b c.in_ok-push_wide-2.ensures in
    join_two o (((p ++ n) ++ 32 ∷ []) ++ m) (10 ∷ []) c.push_wide-2.new.line.items c.push-2.new.self.items d c.in_ok-push-2.ensures.items
    ∙ ap (λ (l : List ℕ). o ++ (l ++ 10 ∷ [])) (regroup_three p n m ∙ sym (problem_spelled (c.args.labels, c.args.constraints)))
