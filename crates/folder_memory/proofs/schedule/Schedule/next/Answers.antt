use Rattle.std.proofs.Common.{inr, ⊎_elim}
use Rattle.std.proofs.lemmas.Bool.{false≢true}
use Rattle.folder_memory.proofs.schedule.Schedule.next.Goals as goal

pub returns-clause-counts : goal.returns-clause-counts
returns-clause-counts c = record {
  failed = c.next_or.result;
  told = (λ yes. ⊎_elim (λ never. absurd (false≢true never)) (λ fails. fails) (c.next_or.ensures.fails.0 yes), λ fails. c.next_or.ensures.fails.1 (inr fails));
  counted = c.next_or.ensures.counts;
}
