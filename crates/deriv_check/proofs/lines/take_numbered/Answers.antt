use Rattle.std.proofs.Common.{◌≡◌, ◌-◌, length, get_or, ap, arith}
use Rattle.pb_core.specs.AtLeast.{AtLeast, at_least, clause}
use Rattle.pb_core.specs.Normal.{IsNormalOver}
use Rattle.pb_core.proofs.KeptChanges.{keepable_normal}
use Rattle.deriv_check.specs.LineRule.{HasLiterals}
use Rattle.deriv_check.proofs.LineLaws.{clause_small, clause_keepable}
use Rattle.deriv_check.proofs.lines.take_numbered.Goals as goal

pub take-requires-clause-distinct : goal.take-requires-clause-distinct
take-requires-clause-distinct c =
    let normal : IsNormalOver (length c.args.scratch.now) (at_least c.index-constraints-place.result) = rw c.index-constraints-place.is (c.requires.normal (c.args.number - 1) c.index-constraints-place.result (omega arith)) in
    (keepable_normal (length c.args.scratch.now) (at_least c.index-constraints-place.result) normal).distinct

pub take-requires-2-clause-sum : goal.take-requires-2-clause-sum
take-requires-2-clause-sum c =
    let terms : c.in_ok-constraint.constraint.terms ≡ (clause c.items.result.now).terms = ap (λ (a : AtLeast). a.terms) c.in_ok-constraint.ensures in
    let line : c.index-lines-place.result ≡ get_or c.args.lines.now (c.args.number - 1 - length c.args.constraints.now) c.index-lines-place.result = c.index-lines-place.is in
    let has : HasLiterals (length c.args.scratch.now) c.items.result.now = rw c.items.ensures (rw line (c.requires.literals (c.args.number - 1 - length c.args.constraints.now) c.index-lines-place.result (omega (arith, c.requires.from_one, c.requires.within, c.if-place-constraints.false)))) in
    rw terms (clause_small (length c.args.scratch.now) c.items.result.now c.requires.few has)

pub take-requires-2-clause-among : goal.take-requires-2-clause-among
take-requires-2-clause-among c =
    let terms : c.in_ok-constraint.constraint.terms ≡ (clause c.items.result.now).terms = ap (λ (a : AtLeast). a.terms) c.in_ok-constraint.ensures in
    let line : c.index-lines-place.result ≡ get_or c.args.lines.now (c.args.number - 1 - length c.args.constraints.now) c.index-lines-place.result = c.index-lines-place.is in
    let has : HasLiterals (length c.args.scratch.now) c.items.result.now = rw c.items.ensures (rw line (c.requires.literals (c.args.number - 1 - length c.args.constraints.now) c.index-lines-place.result (omega (arith, c.requires.from_one, c.requires.within, c.if-place-constraints.false)))) in
    rw terms (clause_keepable (length c.args.scratch.now) c.items.result.now c.requires.few has).among

pub take-requires-2-clause-distinct : goal.take-requires-2-clause-distinct
take-requires-2-clause-distinct c =
    let terms : c.in_ok-constraint.constraint.terms ≡ (clause c.items.result.now).terms = ap (λ (a : AtLeast). a.terms) c.in_ok-constraint.ensures in
    let line : c.index-lines-place.result ≡ get_or c.args.lines.now (c.args.number - 1 - length c.args.constraints.now) c.index-lines-place.result = c.index-lines-place.is in
    let has : HasLiterals (length c.args.scratch.now) c.items.result.now = rw c.items.ensures (rw line (c.requires.literals (c.args.number - 1 - length c.args.constraints.now) c.index-lines-place.result (omega (arith, c.requires.from_one, c.requires.within, c.if-place-constraints.false)))) in
    rw terms (clause_keepable (length c.args.scratch.now) c.items.result.now c.requires.few has).distinct
