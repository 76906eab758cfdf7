use Rattle.std.proofs.Common.{ℕ, List, [], ◌∷◌, ◌++◌, codes, ap, sym, ◌∙◌}
use Rattle.std.specs.List.{flat_map}
use Rattle.std.specs.Fmt.{decimal}
use Rattle.pb_core.specs.declared.literal.Term.{Term}
use Rattle.deriv_check.specs.EvidenceText.{term_word, origin_word}
use Rattle.deriv_check.proofs.WritingLaws.{join_two, regroup_four, constraint_spelled}
use Rattle.deriv_check.proofs.evidence_writer.push_constraint.Goals as goal

pub returns-clause-spelled : goal.returns-clause-spelled
returns-clause-spelled c =
    let o = c.args.text.now.items in
    let k = c.args.constraint.now in
    let p = codes "c " in
    let w = origin_word k.terms k.origin in
    let n = decimal k.degree in
    let ts = flat_map (λ (t : Term). 32 ∷ term_word t) k.terms in
    let origin = c.in_ok-push_origin.ensures.spelled ∙ ap (λ (l : List Term). c.extend_from_slice.new.self.items ++ origin_word l k.origin) c.items-terms.ensures in
    let terms = c.in_ok-push_terms.ensures ∙ ap (λ (l : List Term). c.push_wide.new.line.items ++ flat_map (λ t. 32 ∷ term_word t) l) c.items-terms.ensures in
    let a = join_two o p w c.extend_from_slice.new.self.items c.push_origin.new.line.items c.in_ok-extend_from_slice.ensures.items origin in
    let b = join_two o (p ++ w) (32 ∷ []) c.push_origin.new.line.items c.push.new.self.items a c.in_ok-push.ensures.items in
    let d = join_two o ((p ++ w) ++ 32 ∷ []) n c.push.new.self.items c.push_wide.new.line.items b c.in_ok-push_wide.ensures in
    let e = join_two o (((p ++ w) ++ 32 ∷ []) ++ n) ts c.push_wide.new.line.items c.push_terms.new.line.items d terms in
    join_two o ((((p ++ w) ++ 32 ∷ []) ++ n) ++ ts) (10 ∷ []) c.push_terms.new.line.items c.push-2.new.self.items e c.in_ok-push-2.ensures.items
    ∙ ap (λ (l : List ℕ). o ++ (l ++ 10 ∷ [])) (regroup_four p w n ts ∙ sym (constraint_spelled k))
