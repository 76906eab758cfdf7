use Rattle.std.proofs.Common.{◌∙◌, sym}
use Rattle.unit_judge.proofs.Counted.{met_by_count}
use Rattle.unit_judge.proofs.needs.is_met.Goals as goal

pub returns : goal.returns
returns c =
    met_by_count c.args.index.now c.args.required.now c.args.env.now c.in_ok-providers.providers c.is_enough.result (sym c.asks.ensures ∙ c.if-not-asks.false) c.in_ok-providers.ensures
    (rw c.len.ensures at c.is_enough.ensures)
