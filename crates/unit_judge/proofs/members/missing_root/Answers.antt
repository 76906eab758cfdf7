use Rattle.std.proofs.Common.{◌∙◌, ap, arith}
use Rattle.std.specs.Prelude.{Contains, not}
use Rattle.unit_model.specs.Valid.{names}
use Rattle.unit_model.specs.declared.name.UnitName.{UnitName}
use Rattle.unit_judge.proofs.Firsts.{all_more, first_here}
use Rattle.unit_judge.proofs.InOrder.{none_missing, some_member}
use Rattle.unit_judge.proofs.members.missing_root.Goals as goal

pub returns-then-is_none : goal.returns-then-is_none
returns-then-is_none c =
    let units = c.args.units.now in
    let P : UnitName → Type 0 = Contains (names units) in (
      c.loop-root.root-index,
      first_here P c.args.roots.now c.loop-root.root-index c.root-item.result c.loop-root-test.true c.root-item.is
          (none_missing units c.root-item.result c.place_of.result (c.is_none.ensures ∙ ap not c.if-is_none.true) c.place_of.ensures) c.loop-root.invariant,
    )

pub loop-root-preserved : goal.loop-root-preserved
loop-root-preserved c =
    let units = c.args.units.now in
    let P : UnitName → Type 0 = Contains (names units) in
    all_more P c.args.roots.now c.loop-root.root-index c.root-item.result c.loop-root-test.true c.root-item.is
    (some_member units c.root-item.result c.place_of.result (c.is_none.ensures ∙ ap not c.if-is_none.false) c.place_of.ensures) c.loop-root.invariant

pub returns : goal.returns
returns c = λ k d inside. c.loop-root.invariant k d (omega arith)
