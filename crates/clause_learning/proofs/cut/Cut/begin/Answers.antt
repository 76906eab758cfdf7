use Rattle.std.proofs.Common.{◌<◌, ◌≤◌, ◌++◌, ◌∷◌, [], ℕ, List, length, sym, ap, subst, ◌∙◌}
use Rattle.std.proofs.lemmas.List.Elements.{All-push, All-nil}
use Rattle.pb_core.specs.ConstraintAt.{constraint_at}
use Rattle.deriv_check.specs.LineRule.{HasHints}
use Rattle.clause_learning.specs.Explained.{IsExplained}
use Rattle.clause_learning.specs.Marks.{HaveMarks}
use Rattle.clause_learning.proofs.LearnedLaws.{explained_first}
use Rattle.clause_learning.proofs.cut.Cut.begin.Goals as goal

pub returns-clause-cut : goal.returns-clause-cut
returns-clause-cut c =
    let hints = c.mark_terms.ensures.keeps.hints ∙ (c.in_ok-push.ensures.items ∙ ap (λ (hs : List ℕ). hs ++ c.args.conflict ∷ []) c.requires.hints) in
    let P : ℕ → Type 0 = λ k. HaveMarks c.args.trail.now k c.mark_terms.new.self.seen.items (constraint_at c.args.trail.now.kept.constraints c.args.conflict).terms (length (constraint_at c.args.trail.now.kept.constraints c.args.conflict).terms) in
    record {
      marks = c.mark_terms.ensures.marks;
      has_hints = subst (λ (hs : List ℕ). HasHints c.args.trail.now.kept.constraints hs) (sym hints) (All-push (λ (h : ℕ). (0 < h) × (h ≤ length c.args.trail.now.kept.constraints)) [] c.args.conflict (All-nil (λ (h : ℕ). (0 < h) × (h ≤ length c.args.trail.now.kept.constraints))) (c.requires.from_one, c.requires.within));
      explained = subst (λ (hs : List ℕ). IsExplained c.args.trail.now c.mark_terms.new.self.seen.items hs) (sym hints) (explained_first c.args.trail.now c.mark_terms.new.self.seen.items c.args.conflict c.requires.good c.requires.violated (subst P c.requires.top c.mark_terms.ensures.marked));
    }
