use Rattle.std.proofs.Common.{◌≡◌, [], drop, option_map}
use Rattle.inf_reader.specs.TableAt.{at}
use Rattle.inf_reader.specs.UnitsOf.{units_from}
use Rattle.inf_reader.proofs.NameLemmas.{HasNames}
use Rattle.inf_reader.proofs.units.units_from.Given as goal

-- the units so far with their names, and those of the owners that are left
abbrev pub invariant-loop-owner : goal.invariant-loop-owner
invariant-loop-owner l =
    let host = option_map (λ h. h.now) l.host in
    (units_from host (at l.table) l.table.places.keys l.units (drop l.owner-index l.owners)
    ≡ units_from host (at l.table) l.table.places.keys [] l.owners)
    × HasNames l.names l.units
