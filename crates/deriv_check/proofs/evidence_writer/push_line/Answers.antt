use Rattle.std.proofs.Common.{ℕ, List, [], ◌∷◌, ◌++◌, codes, ap, sym, ◌∙◌}
use Rattle.std.specs.List.{flat_map}
use Rattle.std.specs.Fmt.{decimal}
use Rattle.pb_core.specs.declared.literal.Lit.{Lit}
use Rattle.deriv_check.specs.EvidenceText.{lit_word}
use Rattle.deriv_check.proofs.WritingLaws.{join_two, regroup_hints, derived_spelled}
use Rattle.deriv_check.proofs.evidence_writer.push_line.Goals as goal

pub returns-clause-spelled : goal.returns-clause-spelled
returns-clause-spelled c =
    let o = c.args.text.now.items in
    let k = c.args.line.now in
    let p = codes "l" in
    let ls = flat_map (λ (l : Lit). 32 ∷ lit_word l) k.clause in
    let m = codes " ;" in
    let hs = flat_map (λ (h : ℕ). 32 ∷ decimal h) k.hints in
    let lits = c.in_ok-push_lits.ensures.spelled ∙ ap (λ (l : List Lit). c.push.new.self.items ++ flat_map (λ x. 32 ∷ lit_word x) l) c.items.ensures in
    let hints = c.in_ok-push_hints.ensures.spelled ∙ ap (λ (l : List ℕ). c.extend_from_slice.new.self.items ++ flat_map (λ x. 32 ∷ decimal x) l) c.items-2.ensures in
    let a = join_two o p ls c.push.new.self.items c.push_lits.new.line.items c.in_ok-push.ensures.items lits in
    let b = join_two o (p ++ ls) m c.push_lits.new.line.items c.extend_from_slice.new.self.items a c.in_ok-extend_from_slice.ensures.items in
    let d = join_two o ((p ++ ls) ++ m) hs c.extend_from_slice.new.self.items c.push_hints.new.line.items b hints in
    join_two o (((p ++ ls) ++ m) ++ hs) (10 ∷ []) c.push_hints.new.line.items c.push-2.new.self.items d c.in_ok-push-2.ensures.items
    ∙ ap (λ (l : List ℕ). o ++ (l ++ 10 ∷ [])) (regroup_hints p ls m hs ∙ sym (derived_spelled k))
