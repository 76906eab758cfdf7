use Rattle.std.proofs.Common.{Err, ap, ◌∙◌}
use Rattle.director_source.proofs.Gatherings.{IsEntered, unit_entered, catalog_full}
use Rattle.director_source.proofs.gathering.Gathering.add.Goals as goal
use Rattle.director_source.proofs.gathering.Gathering.add.Goals.{In-Ok}

entered : (c : In-Ok) → IsEntered c.args.self.now.catalog c.add.new.self c.args.unit
entered c =
    unit_entered c.args.self.now.catalog c.args.unit c.requires.is.few c.requires.is.in_form c.requires.form
    c.add.new.self c.add.result c.in-Ok.field-0
    (record { named = c.add.ensures.named; full = c.add.ensures.full; room = c.add.ensures.room })
    c.in-Ok.is c.in-Ok.ensures.new

pub returns-in-Ok-clause-is : goal.returns-in-Ok-clause-is
returns-in-Ok-clause-is c =
    let now = entered (goal.at.returns-in-Ok-clause-is c).In-Ok in
    record { in_form = now.in_form; few = now.few; within = c.requires.is.within }

pub returns-in-Ok-clause-found : goal.returns-in-Ok-clause-found
returns-in-Ok-clause-found c = (entered (goal.at.returns-in-Ok-clause-found c).In-Ok).gives

pub returns-in-Err-Full-clause-refused : goal.returns-in-Err-Full-clause-refused
returns-in-Err-Full-clause-refused c =
    catalog_full c.args.self.now.catalog c.args.unit c.requires.is.few c.requires.is.in_form c.requires.form c.add.result
    (record { named = c.add.ensures.named; full = c.add.ensures.full; room = c.add.ensures.room })
    (c.in-Err-Full.is ∙ ap Err c.in-Err-Full.field-0-is)
