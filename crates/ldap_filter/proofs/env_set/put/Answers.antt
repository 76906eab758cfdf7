use Rattle.std.proofs.Common.{Ok, Err}
use Rattle.ldap_filter.specs.EnvPlace.{IsPlace}
use Rattle.ldap_filter.proofs.EnvChanges.{replaced_at, inserted}
use Rattle.ldap_filter.proofs.env_set.put.Goals as goal

pub returns-in-Ok-clause-ok : goal.returns-in-Ok-clause-ok
returns-in-Ok-clause-ok c =
    let place : IsPlace c.args.entries.now.items c.args.entry.key (Ok c.in-Ok.place) = rw (c.as_slice.ensures.value, c.bytes.ensures.value) at c.in-Ok.ensures in
    replaced_at c.args.entries.now.items c.in-Ok.place c.args.entry c.requires.env c.requires.form place

pub returns-in_ok-insert-in-Err-clause-ok : goal.returns-in_ok-insert-in-Err-clause-ok
returns-in_ok-insert-in-Err-clause-ok c =
    let place : IsPlace c.args.entries.now.items c.args.entry.key (Err c.in-Err.place) = rw (c.as_slice.ensures.value, c.bytes.ensures.value) at c.in-Err.ensures in
    let items = c.in_ok-insert-in-Err.ensures.items in
    rw items (inserted c.args.entries.now.items c.in-Err.place c.args.entry c.requires.env c.requires.form place.1 place.2)
