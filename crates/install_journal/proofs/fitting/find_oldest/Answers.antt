use Rattle.std.proofs.Common.{Err, Ok, rules}
use Rattle.std.specs.List.Sorted.{IsBinarySearchResult}
use Rattle.std.proofs.lemmas.Fn.{always_returns_same}
use Rattle.folder_core.specs.PathOrder.{path_cmp}
use Rattle.install_journal.proofs.FittingsOrder.{search_none, search_some}
use Rattle.install_journal.proofs.fitting.find_oldest.Goals as goal

pub returns-in-Ok : goal.returns-in-Ok
returns-in-Ok c = λ rising.
    let found : IsBinarySearchResult (λ one. path_cmp one.path c.args.path.now) c.args.oldest.now (Ok c.in-Ok.place) = c.in-Ok.ensures.position (λ one. path_cmp one.path c.args.path.now) (always_returns_same _ _ _ (λ a r f k. search rules)) in
    search_some c.args.oldest.now rising c.args.path.now c.in-Ok.place c.index-oldest-place.result c.in-Ok.ensures.bound c.index-oldest-place.is found

pub returns-in-Err : goal.returns-in-Err
returns-in-Err c = λ rising.
    let found : IsBinarySearchResult (λ one. path_cmp one.path c.args.path.now) c.args.oldest.now (Err c.in-Err.field-0) = c.in-Err.ensures.position (λ one. path_cmp one.path c.args.path.now) (always_returns_same _ _ _ (λ a r f k. search rules)) in
    search_none c.args.oldest.now rising c.args.path.now c.in-Err.field-0 found
