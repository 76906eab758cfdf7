use Rattle.std.proofs.Common.{Some, None, ◌∙◌}
use Rattle.std.proofs.lemmas.Slice.Eq.{strip_prefix_is, bytes_eq-Decides}
use Rattle.folder_memory.proofs.Below.{apart_also, behind_also, not_below, first_below}
use Rattle.folder_memory.proofs.names.name_below.Goals as goal

pub returns-in_err-rest : goal.returns-in_err-rest
returns-in_err-rest c =
    let apart = strip_prefix_is bytes_eq-Decides c.items-names.result.now c.items-front.result.now None c.in_err-rest.ensures.cases in
    rw c.from_residual.ensures (not_below c.args.path.now c.args.place.now (apart_also _ _ _ _ (c.items-names.ensures ∙ c.names-2.ensures.value) (c.items-front.ensures ∙ c.names.ensures.value) apart))

pub returns : goal.returns
returns c =
    let behind = strip_prefix_is bytes_eq-Decides c.items-names.result.now c.items-front.result.now (Some c.in_ok-rest.rest) c.in_ok-rest.ensures.cases in
    first_below c.args.path.now c.in_ok-rest.rest.now c.args.place.now c.first.result (behind_also _ _ _ _ _ (c.items-names.ensures ∙ c.names-2.ensures.value) (c.items-front.ensures ∙ c.names.ensures.value) behind) c.first.ensures.value
