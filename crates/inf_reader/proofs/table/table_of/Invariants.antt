use Rattle.std.proofs.Common.{◌≡◌, drop, fold}
use Rattle.std.specs.Ordering.{nat_cmp}
use Rattle.std.specs.BTreeMap.{get}
use Rattle.std.specs.BTreeSet.{insert_key}
use Rattle.inf_keys.specs.declared.key.Key.{Key}
use Rattle.inf_keys.specs.Order.{key_cmp}
use Rattle.inf_values.specs.Readings.{Readings, ReadsAll}
use Rattle.inf_reader.specs.Placing.{value_with, value_at, place_cmp, places_of, owners_of}
use Rattle.inf_reader.proofs.table.table_of.Given as goal

-- what the table has so far, and what the entries that are left add
abbrev pub invariant-loop-entry : goal.invariant-loop-entry
invariant-loop-entry l = record {
  values : (read : Readings) → ReadsAll read → (key : Key) → fold (value_with read key) (get key_cmp l.values key) (drop l.entry-index l.entries) ≡ value_at read l.entries key;
  places : fold (λ places e. insert_key place_cmp places e.place) l.places.keys (drop l.entry-index l.entries) ≡ places_of l.entries;
  owners : fold (λ owners e. insert_key nat_cmp owners e.place.owner) l.owners.keys (drop l.entry-index l.entries) ≡ owners_of l.entries;
}
