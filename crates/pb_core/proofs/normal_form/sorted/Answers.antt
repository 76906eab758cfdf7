use Rattle.std.proofs.Common.{rules}
use Rattle.std.proofs.lemmas.List.Sorted.{IsNonDecreasingBy-from_sort, answers_always}
use Rattle.pb_core.specs.declared.literal.SignedTerm.{SignedTerm}
use Rattle.pb_core.proofs.normal_form.sorted.Goals as goal

pub returns-clause-rising : goal.returns-clause-rising
returns-clause-rising c =
    IsNonDecreasingBy-from_sort (λ (t : SignedTerm). t.lit.variable) _
    (c.sort_unstable_by_key.ensures.sorted (λ (t : SignedTerm). t.lit.variable) (answers_always _ _ _ (λ f a r g h. search rules)))
