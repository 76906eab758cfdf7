use Rattle.std.proofs.Common.{◌≡◌, ◌<◌, false, List, length, get_or, sym, ap, ◌∙◌, arith}
use Rattle.std.proofs.lemmas.List.{get_or_default}
use Rattle.pb_core.specs.ConstraintAt.{constraint_at}
use Rattle.pb_core.specs.declared.literal.Term.{Term}
use Rattle.clause_learning.proofs.MarkLaws.{KeepsMarks-through, AddsBelow-through, HaveMarks-more}
use Rattle.clause_learning.proofs.cut.Cut.mark_terms.Goals as goal

abbrev none : Term
none = record { coef = 0; lit = record { variable = 0; positive = false } }

pub loop-term-preserved : goal.loop-term-preserved
loop-term-preserved c =
    let within : c.loop-term.term-index < length c.terms-term-items.result.now = omega arith in
    let inside : c.loop-term.term-index < length (constraint_at c.args.trail.now.kept.constraints c.args.number).terms = omega (arith, within, ap length c.terms-term-items.ensures) in
    let is : get_or (constraint_at c.args.trail.now.kept.constraints c.args.number).terms c.loop-term.term-index (get_or c.terms-term-items.result.now c.loop-term.term-index none) ≡ get_or c.terms-term-items.result.now c.loop-term.term-index none = ap (λ (ts : List Term). get_or ts c.loop-term.term-index (get_or c.terms-term-items.result.now c.loop-term.term-index none)) (sym c.terms-term-items.ensures) ∙ get_or_default c.terms-term-items.result.now c.loop-term.term-index (get_or c.terms-term-items.result.now c.loop-term.term-index none) none within in
    record {
      marks = c.mark.ensures.marks;
      keeps = KeepsMarks-through c.args.self.now c.loop-term.self c.mark.new.self c.loop-term.invariant.keeps c.mark.ensures.keeps;
      below = AddsBelow-through c.args.limit c.args.self.now c.loop-term.self c.mark.new.self c.loop-term.invariant.keeps.bottom c.loop-term.invariant.below c.mark.ensures.below;
      marked = HaveMarks-more c.args.trail.now c.args.limit c.loop-term.self.seen.items c.mark.new.self.seen.items (constraint_at c.args.trail.now.kept.constraints c.args.number).terms c.loop-term.term-index (get_or c.terms-term-items.result.now c.loop-term.term-index none) inside c.mark.ensures.keeps.marks c.mark.ensures.marked is c.loop-term.invariant.marked;
    }
