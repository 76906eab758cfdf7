use Rattle.std.proofs.Common.{List, ◌++◌, ℕ, sym, ◌∙◌, ap}
use Rattle.std.specs.Prelude.{map}
use Rattle.std.proofs.lemmas.List.{append-nil}
use Rattle.install_journal.specs.declared.reading.First.{First}
use Rattle.install_journal.proofs.ReadingLists.{listed, is_listed}
use Rattle.install_journal.proofs.reading.in_order.Goals as goal

pub returns : goal.returns
returns c =
    is_listed c.args.firsts c.loop-path.list c.into_iter-path-iterator.ensures.into_iter_gives.5
    (sym (append-nil c.loop-path.list) ∙ ap (λ (l : List (List (List ℕ) × First)). c.loop-path.list ++ map listed l) (sym c.in-None.ensures.steps.0) ∙ c.loop-path.invariant)
