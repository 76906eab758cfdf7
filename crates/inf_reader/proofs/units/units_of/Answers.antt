use Rattle.std.proofs.Common.{◌≡◌, [], ℕ, List, Option, Result, sym, ap, subst, ◌∙◌}
use Rattle.std.proofs.lemmas.Result.{err_from_is_err_and}
use Rattle.unit_model.specs.declared.unit.Unit.{Unit}
use Rattle.inf_reader.specs.declared.fault.InfRefusal.{InfRefusal}
use Rattle.inf_keys.specs.declared.key.Key.{Key}
use Rattle.inf_keys.specs.KeyReading.{key_reading}
use Rattle.inf_values.specs.declared.reading.Value.{Value}
use Rattle.inf_values.proofs.ReadingLemmas.{keys_once}
use Rattle.inf_values.specs.declared.keys.Place.{Place}
use Rattle.inf_reader.specs.Gives.{Gives}
use Rattle.inf_values.specs.Readings.{Readings, ReadsAll}
use Rattle.inf_reader.specs.TableAt.{at}
use Rattle.inf_reader.specs.Placing.{value_at, places_of, owners_of}
use Rattle.inf_reader.specs.UnitsOf.{units_from, units_of}
use Rattle.inf_reader.proofs.FormLemmas.{given-in_form}
use Rattle.inf_reader.proofs.Steps.{Refuses-along}
use Rattle.inf_reader.proofs.UnitLemmas.{units_of-refused, units_of-entries}
use Rattle.inf_reader.proofs.units.units_of.Goals as goal

pub returns-in_err-entries : goal.returns-in_err-entries
returns-in_err-entries c =
    let host = c.in_ok-host.host in
    let folder = c.args.folder.now in
    let pairs = c.args.pairs.now in
    let p = err_from_is_err_and c.from_residual-in_err-entries.result c.from_residual-in_err-entries.ensures.1 in
    let refuses = rw c.as_ref.ensures.value at c.in_err-entries.ensures in
    let exact : (read : Readings) → ReadsAll read → Gives (λ units. units) c.from_residual-in_err-entries.result (units_of read folder pairs) = λ read reads.
    rw (p.1, p.2) (Refuses-along c.in_err-entries.field-0.0 _ (units_of read folder pairs) refuses
    (λ r h. units_of-refused read key_reading folder pairs host r (keys_once read reads) (c.in_ok-host.ensures.value read reads) h)) in
    record { exact = exact; form = given-in_form c.from_residual-in_err-entries.result folder pairs exact }

pub returns : goal.returns
returns c =
    let host = c.in_ok-host.host in
    let folder = c.args.folder.now in
    let pairs = c.args.pairs.now in
    let entries = c.in_ok-entries.entries.items in
    let table = c.in_ok-table.table in
    let owners = c.in_ok-owners.owners.items in
    let given = rw c.as_ref.ensures.value at c.in_ok-entries.ensures in
    let P : Result (List Unit) InfRefusal → Type 0 = λ r. Gives (λ units. units) c.units_from.result r in
    let exact : (read : Readings) → ReadsAll read → P (units_of read folder pairs) = λ read reads.
    let whole = units_of-entries read key_reading folder pairs host entries (keys_once read reads) (c.in_ok-host.ensures.value read reads) given in
    let values : at table ≡ value_at read entries = λ i key. (c.in_ok-table.ensures.values read reads key ∙ ap (λ es. value_at read es key) c.deref.ensures.value) i in
    let same : units_from host (at table) table.places.keys [] owners ≡ units_of read folder pairs =
    ap (λ (a : Key → Option Value). units_from host a table.places.keys [] owners) values
    ∙ (ap (λ (ps : List Place). units_from host (value_at read entries) ps [] owners) (c.in_ok-table.ensures.places ∙ ap places_of c.deref.ensures.value)
    ∙ (ap (λ (os : List ℕ). units_from host (value_at read entries) (places_of entries) [] os) (c.in_ok-owners.ensures ∙ (c.in_ok-table.ensures.owners ∙ ap owners_of c.deref.ensures.value))
    ∙ sym whole)) in
    subst P same (rw (c.as_ref-2.ensures.value, c.deref-2.ensures.value) at c.units_from.ensures) in
    record { exact = exact; form = given-in_form c.units_from.result folder pairs exact }
