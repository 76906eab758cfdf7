-- What the entries of a p2.inf give: a value for each key, and the rows and the units that they speak of.
use Rattle.std.specs.Prelude.{ℕ, ◌==◌, ◌&&◌, Bool, List, [], Option, Some, None, fold, map, filter, if◌then◌else◌}
use Rattle.std.specs.Ordering.{nat_cmp, ordering_then, is_eq}
use Rattle.std.specs.declared.cmp.Ordering.{Ordering}
use Rattle.std.specs.BTreeSet.{insert_key}
use Rattle.inf_keys.specs.declared.key.Key.{Key}
use Rattle.inf_keys.specs.Order.{key_cmp}
use Rattle.inf_values.specs.declared.reading.Value.{Value}
use Rattle.inf_values.specs.Readings.{Readings, value_of}
use Rattle.inf_values.specs.declared.keys.Place.{Place}
use Rattle.inf_reader.specs.declared.entries.Entry.{Entry}
use Rattle.inf_values.specs.Keys.{class_of}

-- No two keys are tied.
abbrev pub value_with : Readings → Key → Option Value → Entry → Option Value
value_with read key found e = if is_eq (key_cmp e.key key) then Some (value_of read (class_of e.key.part) e.text) else found

-- The value of a key: that of the last entry with the key. The keys of a properties text are distinct.
unfoldable pub value_at : Readings → List Entry → Key → Option Value
value_at read entries key = fold (value_with read key) None entries

-- by owner, then by list, then by row
abbrev pub place_cmp : Place → Place → Ordering
place_cmp a b = ordering_then (nat_cmp a.owner b.owner) (ordering_then (nat_cmp a.list b.list) (nat_cmp a.row b.row))

-- the places of the entries, rising, each once
unfoldable pub places_of : List Entry → List Place
places_of entries = fold (λ places e. insert_key place_cmp places e.place) [] entries

-- the owners of the entries, rising, each once
unfoldable pub owners_of : List Entry → List ℕ
owners_of entries = fold (λ owners e. insert_key nat_cmp owners e.place.owner) [] entries

abbrev pub stands_in : ℕ → ℕ → Place → Bool
stands_in owner list place = (place.owner == owner) && (place.list == list)

-- the numbers of an owner's rows in a list, rising
unfoldable pub rows_in : List Place → ℕ → ℕ → List ℕ
rows_in places owner list = map (λ p. p.row) (filter (stands_in owner list) places)
