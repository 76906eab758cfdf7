-- The pairs of a p2.inf, tested in their order. What keys mean is given.
use Rattle.std.specs.Prelude.{ℕ, ◌&&◌, List, [], ◌∷◌, ◌++◌, Option, Some, None, Result, Ok, Err, is_none, option_to_list, if◌then◌else◌}
use Rattle.unit_model.specs.declared.name.UnitName.{UnitName}
use Rattle.inf_keys.specs.declared.key.Key.{Key}
use Rattle.inf_keys.specs.declared.reading.Reading.{Reading}
use Rattle.inf_keys.specs.declared.reading.Reading.TheVariants as reading
use Rattle.inf_values.specs.Replaced.{replaced}
use Rattle.inf_reader.specs.declared.entries.Entry.{Entry}
use Rattle.inf_reader.specs.declared.fault.InfRefusal.{InfRefusal}
use Rattle.inf_reader.specs.declared.fault.InfRefusal.TheVariants.{UnknownKey, LeftOutKey, NoHost}
use Rattle.inf_reader.specs.Gives.{◌>>=◌}
use Rattle.inf_values.specs.Keys.{is_host, place_of}

-- a key and its value
abbrev pub Pair : Type 0
Pair = List ℕ × List ℕ

-- what each text means as a key
abbrev pub Meanings : Type 0
Meanings = List ℕ → Reading Key

abbrev pub taken_reading : List ℕ → Reading Key → Result (Option Key) InfRefusal
taken_reading key (reading.Meaning named) = Ok (Some named)
taken_reading key reading.Silent = Ok None
taken_reading key reading.LeftOut = Err (LeftOutKey key)
taken_reading key reading.Unknown = Err (UnknownKey key)

-- what a key names, or nothing where it is taken and says nothing
unfoldable pub taken : Meanings → List ℕ → Result (Option Key) InfRefusal
taken means key = taken_reading key (means key)

-- what needs the host, where there is one
abbrev pub hosted : {X : Type 0} → List ℕ → Option X → Result X InfRefusal
hosted key (Some x) = Ok x
hosted key None = Err (NoHost key)

-- The host's own parts need a host.
abbrev pub placed : Option UnitName → List ℕ → List ℕ → Option Key → Result (Option Entry) InfRefusal
placed host key text None = Ok None
placed host key text (Some named) =
    if is_host named.owner && is_none host then Err (NoHost key)
    else Ok (Some (record { key = named; place = place_of named; text = text }))

-- the entry of a pair, or nothing where its key says nothing
unfoldable pub entry_of : Meanings → Option UnitName → Pair → Result (Option Entry) InfRefusal
entry_of means host pair =
    taken means pair.0 >>= λ named. hosted pair.0 (replaced host pair.1) >>= λ text. placed host pair.0 text named

-- the entries of the pairs, or the refusal of the first pair that is refused
unfoldable pub entries_of : Meanings → Option UnitName → List Pair → Result (List Entry) InfRefusal
entries_of means host [] = Ok []
entries_of means host (pair ∷ pairs) =
    entry_of means host pair >>= λ entry. entries_of means host pairs >>= λ entries. Ok (option_to_list entry ++ entries)
