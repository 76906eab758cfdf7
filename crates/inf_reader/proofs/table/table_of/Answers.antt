use Rattle.std.proofs.Common.{◌≡◌, ◌+◌, List, ℕ, Some, cond, drop, fold, sym, ap, ◌∙◌}
use Rattle.std.specs.Ordering.{nat_cmp, is_eq}
use Rattle.std.specs.BTreeMap.{get}
use Rattle.std.specs.BTreeSet.{insert_key}
use Rattle.inf_keys.specs.Order.{key_cmp}
use Rattle.inf_values.specs.declared.reading.Value.{Value}
use Rattle.inf_values.specs.Readings.{value_of}
use Rattle.inf_values.specs.declared.keys.Place.{Place}
use Rattle.inf_values.specs.Keys.{class_of}
use Rattle.inf_reader.specs.Placing.{value_with, place_cmp}
use Rattle.inf_reader.proofs.Steps.{drop-item}
use Rattle.inf_reader.proofs.table.table_of.Goals as goal

pub loop-entry-preserved : goal.loop-entry-preserved
loop-entry-preserved c =
    let entries = c.args.entries.now in
    let i = c.loop-entry.entry-index in
    let e = c.entry-item.result in
    let rest = drop (i + 1) entries in
    let split = drop-item entries i e c.loop-entry-test.true c.entry-item.is in
    record {
      values = λ read reads key.
          let value_is = c.in_ok-value.ensures read reads ∙ (λ j. value_of read (c.class_of.ensures j) (c.in_ok-copy.ensures j)) in
          let put : get key_cmp c.insert.new.self key ≡ cond (is_eq (key_cmp e.key key)) (Some (value_of read (class_of e.key.part) e.text)) (get key_cmp c.loop-entry.values key) =
          c.in_ok-insert.ensures.updates.0 key ∙ ap (λ (v : Value). cond (is_eq (key_cmp e.key key)) (Some v) (get key_cmp c.loop-entry.values key)) value_is in
          ap (λ o. fold (value_with read key) o rest) put
          ∙ (sym (ap (fold (value_with read key) (get key_cmp c.loop-entry.values key)) split) ∙ c.loop-entry.invariant.values read reads key);
      places =
          ap (λ (ps : List Place). fold (λ places e. insert_key place_cmp places e.place) ps rest) c.in_ok-insert-2.ensures.keys
          ∙ (sym (ap (fold (λ places e. insert_key place_cmp places e.place) c.loop-entry.places.keys) split) ∙ c.loop-entry.invariant.places);
      owners =
          ap (λ (os : List ℕ). fold (λ owners e. insert_key nat_cmp owners e.place.owner) os rest) c.in_ok-insert-3.ensures.keys
          ∙ (sym (ap (fold (λ owners e. insert_key nat_cmp owners e.place.owner) c.loop-entry.owners.keys) split) ∙ c.loop-entry.invariant.owners);
    }
