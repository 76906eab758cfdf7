use Rattle.std.proofs.Common.{◌≤◌, ℕ, Bool, true, false, cond, arith}
use Rattle.std.proofs.lemmas.Grind.{common_steps}
use Rattle.std.proofs.lemmas.List.Sums.{sum_by_more_le_part, sum_by-le-sum_by}
use Rattle.pb_core.specs.Values.{is_false}
use Rattle.pb_core.specs.declared.literal.Term.{Term}
use Rattle.pb_core.proofs.slacks.reachable.Goals as goal

part_le : (b : Bool) (n : ℕ) → cond b 0 n ≤ n
part_le true n = omega arith
part_le false n = omega arith

pub overflow_add-sum : goal.overflow_add-sum
overflow_add-sum c =
    let more = sum_by_more_le_part (λ (t : Term). cond (is_false c.args.values.now t.lit) 0 t.coef) (λ (t : Term). t.coef) c.args.terms.now c.loop-term.term-index (record { coef = 0; lit = record { variable = 0; positive = false } }) (omega arith) (λ t. part_le (is_false c.args.values.now t.lit) t.coef) in
    omega (arith, more, c.requires.small, c.loop-term.invariant)

pub returns-clause-small : goal.returns-clause-small
returns-clause-small c =
    let less = sum_by-le-sum_by (λ (t : Term). cond (is_false c.args.values.now t.lit) 0 t.coef) (λ (t : Term). t.coef) c.args.terms.now (λ t. part_le (is_false c.args.values.now t.lit) t.coef) in
    let same = c.loop-term.invariant in
    grind (arith, common_steps, less)
