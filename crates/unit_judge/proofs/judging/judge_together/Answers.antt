use Rattle.std.proofs.Common.{◌≡◌, sym}
use Rattle.std.specs.Prelude.{Some, None}
use Rattle.std.proofs.lemmas.Option.{MatchOption-at_some, MatchOption-at_none}
use Rattle.unit_model.specs.Valid.{IsValid}
use Rattle.unit_judge.proofs.Judgements.{all_valid}
use Rattle.unit_judge.proofs.judging.judge_together.Goals as goal

pub returns-in_ok-copy-in-Some-2 : goal.returns-in_ok-copy-in-Some-2
returns-in_ok-copy-in-Some-2 c =
    let served : c.in_ok-unit.field-0 ≡ None = cc in
    let found : c.in_ok-unit-3.field-0 ≡ Some c.in-Some-2.unit = cc in
    let valid : IsValid c.args.index.now c.args.roots.now c.args.env.now =
    all_valid c.args.index.now c.args.roots.now c.args.env.now c.requires.order c.requires.rooted c.requires.apply
    (MatchOption-at_none _ _ served c.in_ok-unit.ensures) (rw c.units.ensures at c.in_default-colliding.ensures) in
    (valid, c.in-Some-2.unit.now, sym c.in_ok-copy-in-Some-2.ensures, MatchOption-at_some _ _ c.in-Some-2.unit found c.in_ok-unit-3.ensures)

pub returns-in-None : goal.returns-in-None
returns-in-None c =
    let served : c.in_ok-unit.field-0 ≡ None = cc in
    let found : c.in_ok-unit-3.field-0 ≡ None = cc in
    let valid : IsValid c.args.index.now c.args.roots.now c.args.env.now =
    all_valid c.args.index.now c.args.roots.now c.args.env.now c.requires.order c.requires.rooted c.requires.apply
    (MatchOption-at_none _ _ served c.in_ok-unit.ensures) (rw c.units.ensures at c.in_default-colliding.ensures) in
    (valid, MatchOption-at_none _ _ found c.in_ok-unit-3.ensures)
