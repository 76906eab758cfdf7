use Rattle.std.proofs.Common.{Some, None, refl, sym, ◌∙◌, ap}
use Rattle.std.specs.Option.{option_copied}
use Rattle.folder_memory.proofs.States.{updated_by}
use Rattle.folder_memory.proofs.nodes.place.Goals as goal

pub returns-in_ok-insert-in-Some-clause-ok : goal.returns-in_ok-insert-in-Some-clause-ok
returns-in_ok-insert-in-Some-clause-ok c root =
    updated_by root c.args.nodes.now c.insert.new.self c.args.path.now (option_copied c.args.node) c.requires c.in_ok-copy-in-Some.field-0 (Some c.in_ok-copy-in-Some-2.field-0)
    c.in_ok-copy-in-Some.ensures (ap Some c.in_ok-copy-in-Some-2.ensures ∙ sym (ap option_copied c.in-Some.is)) c.in_ok-insert-in-Some.ensures.updates.0

pub returns-in-None-clause-ok : goal.returns-in-None-clause-ok
returns-in-None-clause-ok c root =
    updated_by root c.args.nodes.now c.remove.new.self c.args.path.now (option_copied c.args.node) c.requires c.args.path.now None
    refl (sym (ap option_copied c.in-None.is)) c.remove.ensures.updates.0
