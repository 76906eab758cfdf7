use Rattle.std.proofs.Common.{ℕ, List}
use Rattle.std.specs.Prelude.{Contains}
use Rattle.unit_catalog.specs.At.{HasAt}
use Rattle.unit_catalog.specs.Order.{AreMembers, units_at}
use Rattle.unit_slicer.specs.RootedPart.{IsRootedIn, IsRootedPart}
use Rattle.unit_slicer.specs.WholeCatalog.{IsPart}
use Rattle.unit_slicer.proofs.RootedLaws.{if_ok_weaker, part_members, part_of_found, part_units, rooted_part}
use Rattle.unit_slicer.proofs.rooting.rooted.Goals as goal

pub returns-in-Ok-clause-members : goal.returns-in-Ok-clause-members
returns-in-Ok-clause-members c =
    let units = c.args.catalog.now in
    let members : List ℕ = c.args.members.now in
    let found : List ℕ = c.in-Ok.found.found in
    if_ok_weaker (IsPart (Contains found) members) (AreMembers units) (λ part is. part_members units (Contains found) members part c.requires is) c.kept.result c.kept.ensures

pub returns-in-Ok-clause-part : goal.returns-in-Ok-clause-part
returns-in-Ok-clause-part c =
    let units = c.args.catalog.now in
    let members : List ℕ = c.args.members.now in
    let found : List ℕ = c.in-Ok.found.found in
    let Rooted = IsRootedIn (units_at units members) c.args.roots.now c.args.env.now in
    if_ok_weaker (IsPart (Contains found) members) (IsPart (HasAt units Rooted) members) (λ part is. part_of_found units Rooted members found part c.in-Ok.ensures.all is) c.kept.result c.kept.ensures

pub returns-in-Ok-clause-rooted : goal.returns-in-Ok-clause-rooted
returns-in-Ok-clause-rooted c =
    let units = c.args.catalog.now in
    let members : List ℕ = c.args.members.now in
    let found : List ℕ = c.in-Ok.found.found in
    let Rooted = IsRootedIn (units_at units members) c.args.roots.now c.args.env.now in
    if_ok_weaker (IsPart (Contains found) members) (λ part. IsRootedPart (units_at units members) c.args.roots.now c.args.env.now (units_at units part))
    (λ part is. rooted_part (units_at units members) c.args.roots.now c.args.env.now (units_at units part)
    (part_units units Rooted members part c.requires.there (part_of_found units Rooted members found part c.in-Ok.ensures.all is)))
    c.kept.result c.kept.ensures
