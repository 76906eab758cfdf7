use Rattle.std.proofs.Common.{◌∙◌, sym}
use Rattle.std.proofs.lemmas.Result.{IfErr-weaker}
use Rattle.osgi_version.proofs.RangePlaces.{range_floor, range_behind, range_found}
use Rattle.osgi_version.proofs.interval.read_range.Goals as goal

pub returns-in_default-clause-refused : goal.returns-in_default-clause-refused
returns-in_default-clause-refused c =
    let other = rw c.split_at.ensures.back at c.in_default.ensures.other in
    IfErr-weaker c.read_floor.result _ _
    (λ at refused. range_floor c.args.text.now c.white_length-white.result at c.white_length-white.ensures other refused) c.read_floor.ensures.refused

pub returns-in-Err-clause-refused : goal.returns-in-Err-clause-refused
returns-in-Err-clause-refused c =
    range_behind c.args.text.now c.white_length-white.result c.in-Some.floor_included _ c.in-Err.at c.white_length-white.ensures
    (sym c.split_at.ensures.back ∙ c.in-Some.ensures.opens) (rw c.split_at-2.ensures.back at c.in-Err.ensures.refused)

pub returns-in-Ok-clause-found : goal.returns-in-Ok-clause-found
returns-in-Ok-clause-found c =
    range_found c.args.text.now c.white_length-white.result c.in-Some.floor_included _ c.in-Ok.bounds c.white_length-white.ensures
    (sym c.split_at.ensures.back ∙ c.in-Some.ensures.opens) (rw c.split_at-2.ensures.back at c.in-Ok.ensures.found)
