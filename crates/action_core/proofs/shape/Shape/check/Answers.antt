use Rattle.std.proofs.Common.{List, ℕ, Some, sym, ◌∙◌, ap}
use Rattle.std.proofs.lemmas.Result.{err_from_is_err_and}
use Rattle.action_core.specs.Standing.{map_of, site_of}
use Rattle.action_core.specs.declared.fault.ActionFault.TheVariants.{NoParent}
use Rattle.action_core.proofs.Tested.{common_way, common_passed, common_no_parent, parent_there}
use Rattle.action_core.proofs.shape.Shape.check.Goals as goal

pub returns-in_err-check_way-clause-refused : goal.returns-in_err-check_way-clause-refused
returns-in_err-check_way-clause-refused c =
    let p = err_from_is_err_and c.from_residual.result c.from_residual.ensures.1 in
    rw (p.1, p.2) (λ other. common_way (site_of c.args.self.now) (map_of c.args.self.now) c.args.path.now c.in_err-check_way.field-0.0 (c.in_err-check_way.ensures.refused other))

pub returns-then-is_directory-clause-passed : goal.returns-then-is_directory-clause-passed
returns-then-is_directory-clause-passed c =
    common_passed (site_of c.args.self.now) (map_of c.args.self.now) c.args.path.now c.in_ok-check_way.ensures.passed (parent_there c.items-names.result.now c.args.path.now c.saturating_sub.result (map_of c.args.self.now) (c.items-names.ensures ∙ c.names.ensures.value) c.saturating_sub.ensures ∙ sym c.is_directory.ensures ∙ c.if-is_directory.true)

pub returns-in_ok-copy-clause-refused : goal.returns-in_ok-copy-clause-refused
returns-in_ok-copy-clause-refused c = λ other.
    common_no_parent (site_of c.args.self.now) (map_of c.args.self.now) c.args.path.now c.in_ok-check_way.ensures.passed (parent_there c.items-names.result.now c.args.path.now c.saturating_sub.result (map_of c.args.self.now) (c.items-names.ensures ∙ c.names.ensures.value) c.saturating_sub.ensures ∙ sym c.is_directory.ensures ∙ c.if-is_directory.false)
    ∙ ap (λ (p : List (List ℕ)). Some (NoParent p)) (sym c.in_ok-copy.ensures)
