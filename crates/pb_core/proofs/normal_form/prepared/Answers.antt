use Rattle.std.proofs.Common.{◌<◌, ◌≤◌, arith}
use Rattle.std.proofs.lemmas.Int.{ints}
use Rattle.std.proofs.lemmas.List.Sorted.{sum_by-IsPermutation, All-permutation}
use Rattle.pb_core.specs.Joined.{signed_size}
use Rattle.pb_core.specs.Normalised.{signed_share}
use Rattle.pb_core.specs.declared.literal.SignedTerm.{SignedTerm}
use Rattle.pb_core.proofs.NormalLaws.{moderate_sizes}
use Rattle.pb_core.proofs.SignedSums.{total-IsPermutation}
use Rattle.pb_core.proofs.normal_form.prepared.Goals as goal

pub join_terms-requires-clause-small : goal.join_terms-requires-clause-small
join_terms-requires-clause-small c =
    let size = moderate_sizes c.args.terms.now c.requires.few c.requires.coefs in
    let same = sum_by-IsPermutation signed_size c.args.terms.now c.in_ok-sorted.sorted.items c.in_ok-sorted.ensures.same in
    rw c.deref.ensures.value (omega (arith, size, same))

pub positive_terms-requires-clause-small : goal.positive_terms-requires-clause-small
positive_terms-requires-clause-small c =
    let size = moderate_sizes c.args.terms.now c.requires.few c.requires.coefs in
    let same = sum_by-IsPermutation signed_size c.args.terms.now c.in_ok-sorted.sorted.items c.in_ok-sorted.ensures.same in
    let weight = rw c.deref.ensures.value at c.in_ok-joined.ensures.weight in
    rw c.deref-2.ensures.value (omega (arith, size, same, weight))

pub returns : goal.returns
returns c =
    let size = moderate_sizes c.args.terms.now c.requires.few c.requires.coefs in
    let same = sum_by-IsPermutation signed_size c.args.terms.now c.in_ok-sorted.sorted.items c.in_ok-sorted.ensures.same in
    let weight = rw c.deref.ensures.value at c.in_ok-joined.ensures.weight in
    let small = rw c.deref-2.ensures.value at c.in_ok-positive.ensures.small in
    let high = rw c.deref-2.ensures.value at c.in_ok-positive.ensures.high in
    let limit = c.requires.degree.1 in
    record {
      margin = λ full. let margin = rw c.deref-2.ensures.value at (c.in_ok-positive.ensures.margin full) in let sum = rw c.deref.ensures.value at (c.in_ok-joined.ensures.sum full) in let order = total-IsPermutation (signed_share full) c.args.terms.now c.in_ok-sorted.sorted.items c.in_ok-sorted.ensures.same in omega (arith, ints);
      rising = c.in_ok-positive.ensures.rising;
      above_none = c.in_ok-positive.ensures.above_none;
      small = omega (arith, size, same, weight, small);
      high = omega (arith, ints);
      among = λ variables all. c.in_ok-positive.ensures.among variables (rw c.deref-2.ensures.value (c.in_ok-joined.ensures.among variables (rw c.deref.ensures.value (All-permutation (λ (t : SignedTerm). (0 < t.lit.variable) × (t.lit.variable ≤ variables)) c.args.terms.now c.in_ok-sorted.sorted.items c.in_ok-sorted.ensures.same all))));
    }
