-- Facts on the walk over the owners.
use Rattle.std.proofs.Common.{◌≡◌, ℕ, ◌+◌, ◌<◌, ◌≤◌, true, false, List, [], ◌∷◌, ◌++◌, length, drop, get_or, Option, Result, Ok, Err, if◌then◌else◌, refl, sym, ap, ◌∙◌}
use Rattle.std.proofs.lemmas.List.{drop_more, drop_all}
use Rattle.unit_model.specs.declared.name.UnitName.{UnitName}
use Rattle.unit_model.specs.declared.unit.Unit.{Unit}
use Rattle.inf_values.specs.declared.keys.Place.{Place}
use Rattle.inf_reader.specs.declared.fault.InfRefusal.{InfRefusal}
use Rattle.inf_reader.specs.declared.fault.InfRefusal.TheVariants.{Duplicate}
use Rattle.inf_reader.specs.Gives.{◌>>=◌}
use Rattle.inf_reader.specs.Parts.{At}
use Rattle.inf_reader.specs.declared.entries.Entry.{Entry}
use Rattle.inf_reader.specs.Entries.{Pair, Meanings, entries_of}
use Rattle.inf_values.specs.Host.{host_of}
use Rattle.inf_reader.specs.Placing.{value_at, places_of, owners_of}
use Rattle.inf_values.specs.Readings.{Readings}
use Rattle.inf_reader.specs.UnitsOf.{has_name, unit_of, units_from, units_in, units_of}

module _ (host : Option UnitName) (at : At) (places : List Place) (units : List Unit) (owners : List ℕ) (i : ℕ) where
  abbrev next : Result Unit InfRefusal → Result (List Unit) InfRefusal
  next read = read >>= λ unit. if has_name units unit.name then Err (Duplicate unit.name) else units_from host at places (units ++ unit ∷ []) (drop (i + 1) owners)

  at_owner : i < length owners → units_from host at places units (drop i owners) ≡ next (unit_of host at places (get_or owners i 0))
  unfolding units_from
  at_owner inside = rw (drop_more owners i 0 inside) refl

  pub unit_taken : (unit : Unit) → i < length owners → unit_of host at places (get_or owners i 0) ≡ Ok unit → has_name units unit.name ≡ false
      → units_from host at places units (drop i owners) ≡ units_from host at places (units ++ unit ∷ []) (drop (i + 1) owners)
  unit_taken unit inside read fresh = at_owner inside ∙ (ap next read ∙ ap (λ b. if b then Err (Duplicate unit.name) else units_from host at places (units ++ unit ∷ []) (drop (i + 1) owners)) fresh)

  pub unit_twice : (unit : Unit) → i < length owners → unit_of host at places (get_or owners i 0) ≡ Ok unit → has_name units unit.name ≡ true
      → units_from host at places units (drop i owners) ≡ Err (Duplicate unit.name)
  unit_twice unit inside read twice = at_owner inside ∙ (ap next read ∙ ap (λ b. if b then Err (Duplicate unit.name) else units_from host at places (units ++ unit ∷ []) (drop (i + 1) owners)) twice)

  pub unit_refused : (r : InfRefusal) → i < length owners → unit_of host at places (get_or owners i 0) ≡ Err r → units_from host at places units (drop i owners) ≡ Err r
  unit_refused r inside read = at_owner inside ∙ ap next read

  pub units-none : length owners ≤ i → units_from host at places units (drop i owners) ≡ Ok units
  unfolding units_from
  units-none past = rw (drop_all i owners past) refl

module _ (read : Readings) (means : Meanings) (folder : List ℕ) (pairs : List Pair) (host : Option UnitName) where
  abbrev after : Result (List Entry) InfRefusal → Result (List Unit) InfRefusal
  after found = found >>= λ entries. units_from host (value_at read entries) (places_of entries) [] (owners_of entries)

  whole_is : means ≡ read.key → host ≡ host_of read folder → units_of read folder pairs ≡ after (entries_of means host pairs)
  unfolding units_of
  whole_is keys same = ap (λ h. units_in read h pairs) (sym same) ∙ ap (λ (m : Meanings). after (entries_of m host pairs)) (sym keys)

  pub units_of-refused : (r : InfRefusal) → means ≡ read.key → host ≡ host_of read folder → entries_of means host pairs ≡ Err r → units_of read folder pairs ≡ Err r
  units_of-refused r keys same refused = whole_is keys same ∙ ap after refused

  pub units_of-entries : (entries : List Entry) → means ≡ read.key → host ≡ host_of read folder → entries_of means host pairs ≡ Ok entries
      → units_of read folder pairs ≡ units_from host (value_at read entries) (places_of entries) [] (owners_of entries)
  units_of-entries entries keys same given = whole_is keys same ∙ ap after given
