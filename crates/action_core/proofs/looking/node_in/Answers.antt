use Rattle.std.proofs.Common.{Err, Ok, rules, ◌∙◌, sym}
use Rattle.std.specs.List.Sorted.{IsBinarySearchResult}
use Rattle.std.proofs.lemmas.Fn.{always_returns_same}
use Rattle.folder_core.specs.PathOrder.{path_cmp}
use Rattle.action_core.proofs.Lookups.{search_none, search_some}
use Rattle.action_core.proofs.looking.node_in.Goals as goal

pub returns-in-Ok : goal.returns-in-Ok
returns-in-Ok c =
    let found : IsBinarySearchResult (λ one. path_cmp one.path c.args.names.now) c.args.nodes.now (Ok c.in-Ok.place) = c.in-Ok.ensures.position (λ one. path_cmp one.path c.args.names.now) (always_returns_same _ _ _ (λ a r f k. search rules)) in
    c.as_ref.ensures.value ∙ sym (search_some c.args.nodes.now c.requires c.args.names.now c.in-Ok.place c.index-nodes-place.result c.in-Ok.ensures.bound found)

pub returns-in-Err : goal.returns-in-Err
returns-in-Err c =
    let found : IsBinarySearchResult (λ one. path_cmp one.path c.args.names.now) c.args.nodes.now (Err c.in-Err.field-0) = c.in-Err.ensures.position (λ one. path_cmp one.path c.args.names.now) (always_returns_same _ _ _ (λ a r f k. search rules)) in
    sym (search_none c.args.nodes.now c.requires c.args.names.now c.in-Err.field-0 found)
