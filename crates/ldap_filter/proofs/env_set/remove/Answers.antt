use Rattle.std.proofs.Common.{Ok, Err}
use Rattle.ldap_filter.specs.EnvPlace.{IsPlace}
use Rattle.ldap_filter.proofs.EnvChanges.{removed_at, absent}
use Rattle.ldap_filter.proofs.env_set.remove.Goals as goal

pub returns-in-Ok : goal.returns-in-Ok
returns-in-Ok c =
    let place : IsPlace c.args.entries.now.items c.args.key.now (Ok c.in-Ok.place) = rw c.as_slice.ensures.value at c.in-Ok.ensures in
    rw c.remove.ensures.items (removed_at c.args.entries.now.items c.in-Ok.place c.args.key.now c.requires place)

pub returns-in_default : goal.returns-in_default
returns-in_default c =
    let place : IsPlace c.args.entries.now.items c.args.key.now (Err c.in_default.field-0) = rw c.as_slice.ensures.value at c.in_default.ensures in
    absent c.args.entries.now.items c.in_default.field-0 c.args.key.now c.requires place.1 place.2
