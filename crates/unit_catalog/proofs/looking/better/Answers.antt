use Rattle.std.proofs.Common.{◌≡◌, true}
use Rattle.unit_model.specs.declared.unit.Unit.{Unit as Package}
use Rattle.unit_catalog.specs.Looking.{IsWanted}
use Rattle.unit_catalog.proofs.Finding.{unwanted_more, lower_more, higher_more}
use Rattle.unit_catalog.proofs.looking.better.Goals as goal

pub returns-then-not-is_wanted : goal.returns-then-not-is_wanted
returns-then-not-is_wanted c = λ numbers earlier.
    let P : Package → Type 0 = IsWanted c.args.wanted.now c.args.env.now in
    unwanted_more c.args.units.now P numbers c.args.number c.args.best (λ has. let t : c.is_wanted.result ≡ true = c.is_wanted.ensures.1 has in absurd (cc)) earlier

pub returns-then-is_above : goal.returns-then-is_above
returns-then-is_above c = λ numbers earlier.
    let P : Package → Type 0 = IsWanted c.args.wanted.now c.args.env.now in
    higher_more c.args.units.now P numbers c.args.number c.args.best (c.is_wanted.ensures.0 c.if-not-is_wanted.false) (c.is_above.ensures.above c.if-is_above.true) earlier

pub returns : goal.returns
returns c = λ numbers earlier.
    let P : Package → Type 0 = IsWanted c.args.wanted.now c.args.env.now in
    lower_more c.args.units.now P numbers c.args.number c.args.best (c.is_above.ensures.below c.if-is_above.false) earlier
