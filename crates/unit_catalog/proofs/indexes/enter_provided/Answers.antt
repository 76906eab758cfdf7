use Rattle.std.proofs.Common.{◌≡◌, ◌∙◌, subst, List, take_all}
use Rattle.std.specs.Prelude.{Contains}
use Rattle.std.proofs.lemmas.List.Elements.{All-more}
use Rattle.unit_model.specs.declared.provided.Provided.{Provided}
use Rattle.unit_catalog.specs.Entered.{AreEntered}
use Rattle.unit_catalog.specs.Keys.{pair_key}
use Rattle.unit_catalog.specs.Listed.{listed}
use Rattle.unit_catalog.proofs.indexes.enter_provided.Goals as goal

pub returns-in_err-put-clause-kept : goal.returns-in_err-put-clause-kept
returns-in_err-put-clause-kept c = λ key n has. c.put.ensures.kept key n (c.loop-capability.invariant.kept key n has)

pub loop-capability-preserved : goal.loop-capability-preserved
loop-capability-preserved c =
    let item = c.capability-item.result in
    let P : Provided → Type 0 = λ p. Contains (listed c.put.new.self (pair_key p.namespace p.name)) c.args.number in
    let key : c.pair_key-key.result ≡ pair_key item.namespace item.name = c.pair_key-key.ensures ∙ (λ i. pair_key (c.bytes.ensures.value i) (c.bytes-in-loop-capability.ensures.value i)) in
    let own : P item = subst (λ k. Contains (listed c.put.new.self k) c.args.number) key c.in_ok-put.ensures.has in
    record {
      has = All-more P c.args.provided.now c.loop-capability.capability-index item c.loop-capability-test.true
          (λ k d inside. c.put.ensures.kept _ c.args.number (c.loop-capability.invariant.has k d inside))
          (subst P c.capability-item.is own);
      rising = c.put.ensures.rising;
      kept = λ k n has. c.put.ensures.kept k n (c.loop-capability.invariant.kept k n has);
    }

pub returns-clause-has : goal.returns-clause-has
returns-clause-has c =
    subst (λ (l : List Provided). AreEntered c.loop-capability.index l c.args.number) (take_all c.loop-capability.capability-index c.args.provided.now c.loop-capability-test.false) c.loop-capability.invariant.has
