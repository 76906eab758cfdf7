use Rattle.std.proofs.Common.{ℕ, List, ap, ◌∙◌, subst}
use Rattle.std.specs.Prelude.{Contains}
use Rattle.unit_model.specs.declared.provided.Provided.{Provided}
use Rattle.unit_catalog.specs.Entered.{AreEntered}
use Rattle.unit_catalog.specs.Keys.{text_key}
use Rattle.unit_catalog.specs.Listed.{listed}
use Rattle.unit_catalog.proofs.indexes.Indexes.enter.Goals as goal

pub returns-clause-lead : goal.returns-clause-lead
returns-clause-lead c =
    let n = c.args.number in
    record {
      name = subst (λ (k : ℕ). Contains (listed c.put.new.self k) n) c.name_key.ensures c.in_ok-put.ensures.has;
      id = subst (λ (k : ℕ). Contains (listed c.put-2.new.self k) n) (c.text_key.ensures ∙ ap text_key c.bytes.ensures.value) c.in_ok-put-2.ensures.has;
      update = subst (λ (k : ℕ). Contains (listed c.put-3.new.self k) n) (c.text_key-2.ensures ∙ ap text_key c.bytes-2.ensures.value) c.in_ok-put-3.ensures.has;
      provided = subst (λ (l : List Provided). AreEntered c.enter_provided.new.index l n) c.items.ensures c.in_ok-enter_provided.ensures.has;
    }
