use Rattle.std.proofs.lemmas.Result.{err_from_is_err_and}
use Rattle.std.proofs.Common.{◌≡◌, ◌≢◌, Option, Some, None, OnOk, sym, subst}
use Rattle.std.specs.Result.{IfErr}
use Rattle.action_core.specs.Standing.{map_of}
use Rattle.action_core.specs.declared.fault.ActionFault.{ActionFault}
use Rattle.action_core.specs.declared.fault.ActionFault.TheVariants.{NoMemory}
use Rattle.native_actions.proofs.Copied.{source_links, source_there}
use Rattle.native_actions.proofs.copy.check_source.Goals as goal

pub returns-in_err-check_links-clause-refused : goal.returns-in_err-check_links-clause-refused
returns-in_err-check_links-clause-refused c =
    let p = err_from_is_err_and c.from_residual.result c.from_residual.ensures.1 in
    rw (p.1, p.2) (λ other. source_links (map_of c.args.shape.now) c.args.source.now c.in_err-check_links.field-0.0 (c.in_err-check_links.ensures.refused other))

pub returns-clause-passed : goal.returns-clause-passed
returns-clause-passed c =
    subst (λ (o : Option ActionFault). OnOk c.check_source_node.result (o ≡ None))
    (sym (source_there (map_of c.args.shape.now) c.args.source.now c.in_ok-check_links.ensures.passed)) c.check_source_node.ensures.passed

pub returns-clause-refused : goal.returns-clause-refused
returns-clause-refused c =
    subst (λ (o : Option ActionFault). IfErr c.check_source_node.result (λ fault. fault ≢ NoMemory → o ≡ Some fault))
    (sym (source_there (map_of c.args.shape.now) c.args.source.now c.in_ok-check_links.ensures.passed)) c.check_source_node.ensures.refused
