use Rattle.pb_core.specs.ConstraintAt.{constraint_at}
use Rattle.clause_learning.specs.Marks.{HasMarks, KeepsMarks, AddsBelow, HaveMarks}
use Rattle.clause_learning.proofs.cut.Cut.mark_terms.Given as goal

abbrev pub invariant-loop-term : goal.invariant-loop-term
invariant-loop-term l = record {
  marks : HasMarks l.trail l.self;
  keeps : KeepsMarks l.initial.self l.self;
  below : AddsBelow l.limit l.initial.self l.self;
  marked : HaveMarks l.trail l.limit l.self.seen.items (constraint_at l.trail.kept.constraints l.number).terms l.term-index;
}
