-- The units of a p2.inf are in form.
use Rattle.std.proofs.Common.{◌≡◌, ℕ, ◌-◌, ◌+◌, ◌≤◌, ◌==◌, ◌&&◌, ◌||◌, not, nat_lt, Bool, true, false, List, [], ◌∷◌, ◌++◌, length, All, IfSome, Option, Some, None, option_and_then, unwrap_or, is_none, Result, Ok, Err, codes, if◌then◌else◌, refl, append-nil, append_assoc, sym, ap, ◌∙◌, subst, fold, lit≤, arith}
use Rattle.std.specs.Prelude.{⊤}
use Rattle.std.specs.List.{list_any}
use Rattle.std.specs.Ordering.{is_eq}
use Rattle.std.proofs.lemmas.Bool.{false≢true}
use Rattle.std.proofs.lemmas.Bool.Decides.{nat_tests}
use Rattle.std.proofs.lemmas.List.Elements.{All-nil, All-cons, All-append}
use Rattle.osgi_version.specs.VersionText.{DenotesVersion, IsVersion, version}
use Rattle.osgi_version.specs.RangeText.{DenotesRange, IsRange}
use Rattle.osgi_version.specs.declared.version.Version.{Version}
use Rattle.osgi_version.specs.declared.range.Range.{Range}
use Rattle.osgi_version.proofs.VersionPlaces.{IsVersion-denoted}
use Rattle.ldap_filter.specs.FilterText.{DenotesFilter, IsFilter}
use Rattle.ldap_filter.specs.declared.filter.Filter.{Filter}
use Rattle.unit_model.specs.UnitId.{IsUnitId}
use Rattle.unit_model.specs.declared.name.UnitName.{UnitName}
use Rattle.unit_model.specs.declared.unit.Unit.{Unit}
use Rattle.unit_model.specs.declared.update.Update.{Update}
use Rattle.unit_model.specs.declared.provided.Provided.{Provided}
use Rattle.unit_model.specs.declared.required.Required.{Required}
use Rattle.unit_model.specs.declared.phase.PhaseText.{PhaseText}
use Rattle.inf_keys.specs.declared.fields.Single.TheVariants as single
use Rattle.inf_keys.specs.declared.fields.PropertyField.TheVariants as property
use Rattle.inf_keys.specs.declared.fields.ProvidedField.TheVariants as provided
use Rattle.inf_keys.specs.declared.fields.RequiredField.TheVariants as required
use Rattle.inf_keys.specs.declared.fields.ArtifactField.TheVariants as artifact
use Rattle.inf_keys.specs.declared.fields.Phase.{Phase as KeyPhase}
use Rattle.inf_keys.specs.declared.fields.Phase.TheVariants as key_phase
use Rattle.inf_keys.specs.declared.fields.PhaseField.TheVariants as phase_field
use Rattle.inf_keys.specs.declared.key.Part.TheVariants as part
use Rattle.inf_keys.specs.declared.key.Key.{Key}
use Rattle.inf_keys.specs.declared.reading.Reading.{Reading}
use Rattle.inf_keys.specs.declared.reading.Reading.TheVariants as reading
use Rattle.inf_keys.specs.Order.{key_cmp}
use Rattle.inf_values.specs.declared.reading.Class.{Class}
use Rattle.inf_values.specs.declared.reading.Class.TheVariants as class
use Rattle.inf_values.specs.declared.reading.Value.{Value}
use Rattle.inf_values.specs.declared.reading.Value.TheVariants as values
use Rattle.inf_values.specs.Readings.{Readings, ReadsAll, Reads, value_of}
use Rattle.inf_values.specs.Defaults.{any_version, below_version}
use Rattle.inf_values.specs.Host.{is_empty, is_id, stands_alone, version_at, named, named_by, host_from, host_of}
use Rattle.inf_values.specs.Replaced.{replaced}
use Rattle.inf_values.specs.Values.{plain_in, id_in, version_in, range_in, filter_in, number_in}
use Rattle.inf_values.proofs.IdLemmas.{is_id-sound}
use Rattle.inf_values.proofs.NumberLemmas.{number_small}
use Rattle.inf_values.proofs.RangeReadings.{range_formed}
use Rattle.inf_values.proofs.ReadingLemmas.{readings, readings_all}
use Rattle.inf_reader.specs.declared.entries.Entry.{Entry}
use Rattle.inf_values.specs.declared.keys.Place.{Place}
use Rattle.inf_reader.specs.declared.unit_parts.Head.{Head}
use Rattle.inf_reader.specs.declared.rows.Lists.{Lists}
use Rattle.inf_reader.specs.declared.fault.InfRefusal.{InfRefusal}
use Rattle.inf_reader.specs.declared.fault.InfRefusal.TheVariants.{UnknownKey, LeftOutKey, NoHost, MissingId, BadValue, Duplicate, TooManyRequirements, NoMemory}
use Rattle.inf_reader.specs.InForm.{IsNumber, HasVersion, IsTouchpointInForm, IsRequiredInForm, IsArtifactInForm, phase_place, ArePhasesFrom, IsUnitInForm, IsRefusalInForm, InForm}
use Rattle.inf_reader.specs.Gives.{◌>>=◌, Gives}
use Rattle.inf_values.specs.Keys.{class_of, is_host, key_at, place_of}
use Rattle.inf_reader.specs.Entries.{Pair, Meanings, taken_reading, taken, hosted, placed, entry_of, entries_of}
use Rattle.inf_reader.specs.Parts.{At, has, text_at, in_form, in_form_or, in_form_if_there, needed_text, needed_id, needed_version, version_if_there, range_if_there, number_or, filter_if_there}
use Rattle.inf_reader.specs.Placing.{value_with, value_at, places_of, owners_of, rows_in}
use Rattle.inf_reader.specs.UnitParts.{single_at, property_key, provided_key, required_key, artifact_key, traverse, listed_name, name_of, update_of, has_touchpoint, needed_touchpoint, touchpoint_of, property_row, provided_row, with_itself, is_of_units, provided_of, required_row, required_of, artifact_row, unit_phase, phase_of, phase_at, phases_of, head_of, lists_of}
use Rattle.inf_reader.specs.UnitsOf.{unit_of, has_name, units_from, units_in, units_of}

-- ---- steps

abbrev IfRead : {X : Type 0} → (X → Type 0) → Result X InfRefusal → Type 0
IfRead P (Ok x) = P x
IfRead P (Err refusal) = IsRefusalInForm refusal

abbrev Any : {X : Type 0} → X → Type 0
Any x = ⊤

bind : {X Y : Type 0} (P : X → Type 0) (Q : Y → Type 0) (m : Result X InfRefusal) (f : X → Result Y InfRefusal) → IfRead P m → ((x : X) → P x → IfRead Q (f x)) → IfRead Q (m >>= f)
bind P Q (Ok x) f h k = k x h
bind P Q (Err refusal) f h k = h

either : {X : Type 0} (P : X → Type 0) (b : Bool) (m n : Result X InfRefusal) → IfRead P m → IfRead P n → IfRead P (if b then m else n)
either P true m n h k = h
either P false m n h k = k

each : {X : Type 0} (P : X → Type 0) (f : ℕ → Result X InfRefusal) (rows : List ℕ) → ((row : ℕ) → IfRead P (f row)) → IfRead (All P) (traverse f rows)
unfolding traverse
each P f [] h = All-nil P
each P f (row ∷ rows) h =
    bind P (All P) (f row) _ (h row) (λ x p. bind (All P) (All P) (traverse f rows) _ (each P f rows h) (λ xs ps. All-cons P x xs p ps))

-- ---- values

abbrev IsValueInForm : Value → Type 0
IsValueInForm (values.Plain text) = ⊤
IsValueInForm (values.Version found) = IfSome found IsVersion
IsValueInForm (values.Range found) = IfSome found IsRange
IsValueInForm (values.Filter found) = IfSome found IsFilter

abbrev AreInForm : At → Type 0
AreInForm at = (key : Key) → IfSome (at key) IsValueInForm

version_denoted : (text : List ℕ) (found : Option Version) → Reads DenotesVersion text found → IfSome found IsVersion
version_denoted text None h = tt
version_denoted text (Some v) h = IsVersion-denoted text v h

range_denoted : (text : List ℕ) (found : Option Range) → Reads DenotesRange text found → IfSome found IsRange
range_denoted text None h = tt
range_denoted text (Some r) h = range_formed text r h

filter_denoted : (text : List ℕ) (found : Option Filter) → Reads DenotesFilter text found → IfSome found IsFilter
filter_denoted text None h = tt
filter_denoted text (Some f) h = (text, h)

module _ (read : Readings) (reads : ReadsAll read) where
  value_formed : (c : Class) (text : List ℕ) → IsValueInForm (value_of read c text)
  value_formed class.Plain text = tt
  value_formed class.Version text = version_denoted text (read.version text) (reads.version text)
  value_formed class.Range text = range_denoted text (read.range text) (reads.range text)
  value_formed class.Filter text = filter_denoted text (read.filter text) (reads.filter text)

  with_formed : (key : Key) (found : Option Value) (e : Entry) → IfSome found IsValueInForm → IfSome (value_with read key found e) IsValueInForm
  with_formed key found e h = by (is_eq (key_cmp e.key key))
    where
      by : (b : Bool) → IfSome (if b then Some (value_of read (class_of e.key.part) e.text) else found) IsValueInForm
      by true = value_formed (class_of e.key.part) e.text
      by false = h

  fold_formed : (key : Key) (entries : List Entry) (found : Option Value) → IfSome found IsValueInForm → IfSome (fold (value_with read key) found entries) IsValueInForm
  fold_formed key [] found h = h
  fold_formed key (e ∷ entries) found h = fold_formed key entries (value_with read key found e) (with_formed key found e h)

  at_formed : (entries : List Entry) → AreInForm (value_at read entries)
  unfolding value_at
  at_formed entries key = fold_formed key entries None tt

  -- the version of a host is read of a text
  version_at_formed : (text : List ℕ) → IfSome (version_at read text) IsVersion
  version_at_formed [] = tt
  version_at_formed (b ∷ text) = by ((b == 95) && stands_alone text)
    where
      by : (t : Bool) → IfSome (if t then read.version text else None) IsVersion
      by true = version_denoted text (read.version text) (reads.version text)
      by false = tt

-- a name that a unit may have
pub record IsNameInForm (name : UnitName) : Type 0 where
  pub id : IsUnitId name.id
  pub version : IsVersion name.version

abbrev IsHostInForm : Option UnitName → Type 0
IsHostInForm host = IfSome host IsNameInForm

named_formed : (before : List ℕ) (v : Version) → IsVersion v → IsHostInForm (named before v)
named_formed before v h = by (is_id before) refl
  where
    by : (b : Bool) → is_id before ≡ b → IsHostInForm (if b then Some (record { id = before; version = v }) else None)
    by true e = record { id = is_id-sound before e; version = h }
    by false e = tt

named_by_formed : (before : List ℕ) (found : Option Version) (later : Option UnitName) → IfSome found IsVersion → IsHostInForm later → IsHostInForm (named_by before found later)
named_by_formed before None later h k = k
named_by_formed before (Some v) later h k = named_formed before v h

host_formed : (read : Readings) → ReadsAll read → (before text : List ℕ) → IsHostInForm (host_from read before text)
unfolding host_from
host_formed read reads before [] = tt
host_formed read reads before (b ∷ rest) =
    named_by_formed before (version_at read (b ∷ rest)) (host_from read (before ++ b ∷ []) rest) (version_at_formed read reads (b ∷ rest)) (host_formed read reads (before ++ b ∷ []) rest)

-- ---- parts

formed : {X : Type 0} (P : X → Type 0) (key : Key) (found : Option X) → IfSome found P → IfRead P (in_form key found)
formed P key None h = tt
formed P key (Some x) h = h

formed_or : {X : Type 0} (P : X → Type 0) (form : Value → Option X) (key : Key) (default : X) (found : Option Value)
    → IfSome found (λ value. IfSome (form value) P) → P default → IfRead P (in_form_or form key default found)
formed_or P form key default None h d = d
formed_or P form key default (Some value) h d = formed P key (form value) h

formed_if_there : {X : Type 0} (P : X → Type 0) (form : Value → Option X) (key : Key) (found : Option Value)
    → IfSome found (λ value. IfSome (form value) P) → IfRead (λ x. IfSome x P) (in_form_if_there form key found)
formed_if_there P form key None h = tt
formed_if_there P form key (Some value) h = bind P (λ x. IfSome x P) (in_form key (form value)) _ (formed P key (form value) h) (λ x p. p)

-- what is there, or else a default
or_formed : {X : Type 0} (P : X → Type 0) (found : Option X) (default : X) → IfSome found P → P default → P (unwrap_or found default)
or_formed P None default h d = d
or_formed P (Some x) default h d = h

any_some : {X : Type 0} (found : Option X) → IfSome found Any
any_some None = tt
any_some (Some x) = tt

version_some : (value : Value) → IsValueInForm value → IfSome (version_in value) IsVersion
version_some (values.Plain text) h = tt
version_some (values.Version found) h = h
version_some (values.Range found) h = tt
version_some (values.Filter found) h = tt

range_some : (value : Value) → IsValueInForm value → IfSome (range_in value) IsRange
range_some (values.Plain text) h = tt
range_some (values.Version found) h = tt
range_some (values.Range found) h = h
range_some (values.Filter found) h = tt

filter_some : (value : Value) → IsValueInForm value → IfSome (filter_in value) IsFilter
filter_some (values.Plain text) h = tt
filter_some (values.Version found) h = tt
filter_some (values.Range found) h = tt
filter_some (values.Filter found) h = h

id_some : (text : List ℕ) (b : Bool) → is_id text ≡ b → IfSome (if b then Some text else None) IsUnitId
id_some text true e = is_id-sound text e
id_some text false e = tt

id_of_plain : (found : Option (List ℕ)) → IfSome (option_and_then (λ text. if is_id text then Some text else None) found) IsUnitId
id_of_plain None = tt
id_of_plain (Some text) = id_some text (is_id text) refl

id_found : (found : Option Value) → IfSome (option_and_then id_in found) IsUnitId
id_found None = tt
id_found (Some value) = id_of_plain (plain_in value)

version_found : (found : Option Value) → IfSome found IsValueInForm → IfSome (option_and_then version_in found) IsVersion
version_found None h = tt
version_found (Some value) h = version_some value h

some_weaker : {X : Type 0} (P Q : X → Type 0) (found : Option X) → ((x : X) → P x → Q x) → IfSome found P → IfSome found Q
some_weaker P Q None f h = tt
some_weaker P Q (Some x) f h = f x h

zero_is_version : IsVersion (version 0 0 0 [])
zero_is_version = record { major = lit≤ tt; minor = lit≤ tt; micro = lit≤ tt; qualifier = All-nil _; short = lit≤ tt }

below_is_range : (v : Version) → IsVersion v → IsRange (below_version v)
below_is_range v h = record { floor = zero_is_version; ceiling = h }

any_is_range : IsRange any_version
any_is_range = record { floor = zero_is_version; ceiling = refl }

number_some : (value : Value) → IfSome (number_in value) IsNumber
number_some (values.Plain text) = number_small 2147483647 text
number_some (values.Version found) = tt
number_some (values.Range found) = tt
number_some (values.Filter found) = tt

phases_later : (least more : ℕ) (phases : List PhaseText) → least ≤ more → ArePhasesFrom more phases → ArePhasesFrom least phases
phases_later least more [] h ps = tt
phases_later least more (p ∷ phases) h ps = let first = ps.0 in (omega (arith, h, first), ps.1, ps.2)

both_empty : (text imports : List ℕ) → (is_empty text && is_empty imports) ≡ false → text ≡ [] → imports ≡ [] → ⊥
both_empty text imports e t i = false≢true (sym e ∙ ap (λ x. is_empty x && is_empty imports) t ∙ ap is_empty i)

-- one phase in front of later ones
phase_first : (least : ℕ) (p : KeyPhase) (text imports : List ℕ) (later : List PhaseText) → least ≤ phase_place (unit_phase p)
    → ArePhasesFrom (phase_place (unit_phase p) + 1) later → ArePhasesFrom least (phase_of (unit_phase p) text imports ++ later)
phase_first least p text imports later h ps = by (is_empty text && is_empty imports) refl
  where
    by : (b : Bool) → (is_empty text && is_empty imports) ≡ b
        → ArePhasesFrom least ((if b then [] else record { phase = unit_phase p; imports = imports; text = text } ∷ []) ++ later)
    by true e = phases_later least (phase_place (unit_phase p) + 1) later (omega (arith, h)) ps
    by false e = (h, both_empty text imports e, ps)

regroup : (a b c d e : List PhaseText) → (((a ++ b) ++ c) ++ d) ++ e ≡ a ++ (b ++ (c ++ (d ++ e)))
regroup a b c d e = simp append_assoc

module _ (at : At) (owner : ℕ) (formed_at : AreInForm at) where
  text_read : (key : Key) → IfRead Any (needed_text at key)
  unfolding needed_text
  text_read key = formed Any key _ (any_some _)

  id_read : (key : Key) → IfRead IsUnitId (needed_id at key)
  unfolding needed_id
  id_read key = formed IsUnitId key _ (id_found (at key))

  version_read : (key : Key) → IfRead IsVersion (needed_version at key)
  unfolding needed_version
  version_read key = formed IsVersion key _ (version_found (at key) (formed_at key))

  abbrev MayBe : {X : Type 0} → (X → Type 0) → Option X → Type 0
  MayBe P found = IfSome found P

  version_there : (key : Key) → IfRead (MayBe IsVersion) (version_if_there at key)
  unfolding version_if_there
  version_there key = formed_if_there IsVersion version_in key (at key) (some_weaker IsValueInForm (λ value. IfSome (version_in value) IsVersion) (at key) version_some (formed_at key))

  range_there : (key : Key) → IfRead (MayBe IsRange) (range_if_there at key)
  unfolding range_if_there
  range_there key = formed_if_there IsRange range_in key (at key) (some_weaker IsValueInForm (λ value. IfSome (range_in value) IsRange) (at key) range_some (formed_at key))

  filter_there : (key : Key) → IfRead (MayBe IsFilter) (filter_if_there at key)
  unfolding filter_if_there
  filter_there key = formed_if_there IsFilter filter_in key (at key) (some_weaker IsValueInForm (λ value. IfSome (filter_in value) IsFilter) (at key) filter_some (formed_at key))

  number_read : (key : Key) (default : ℕ) → IsNumber default → IfRead IsNumber (number_or at key default)
  unfolding number_or
  number_read key default d = formed_or IsNumber number_in key default (at key) (some_weaker IsValueInForm (λ value. IfSome (number_in value) IsNumber) (at key) (λ value h. number_some value) (formed_at key)) d

  listed_formed : IfRead IsNameInForm (listed_name at owner)
  unfolding listed_name
  listed_formed =
      either IsNameInForm (not (has at (single_at owner single.Id)) || not (has at (single_at owner single.Version))) (Err (MissingId (owner - 1)))
      (needed_id at (single_at owner single.Id) >>= λ id. needed_version at (single_at owner single.Version) >>= λ v. Ok (record { id = id; version = v })) tt
      (bind IsUnitId IsNameInForm (needed_id at (single_at owner single.Id)) _ (id_read _) (λ id is_id.
      bind IsVersion IsNameInForm (needed_version at (single_at owner single.Version)) _ (version_read _) (λ v is_version.
      record { id = is_id; version = is_version })))

  name_formed : (host : Option UnitName) → IsHostInForm host → IfRead IsNameInForm (name_of host at owner)
  name_formed None h = listed_formed
  name_formed (Some host) h = either IsNameInForm (owner == 0) (Ok host) (listed_name at owner) h listed_formed

  abbrev IsUpdateInForm : Update → Type 0
  IsUpdateInForm update = IsRange update.range × IsNumber update.severity

  update_formed : (name : UnitName) → IsNameInForm name → IfRead IsUpdateInForm (update_of at owner name)
  unfolding update_of
  update_formed name h =
      bind (MayBe IsRange) IsUpdateInForm (range_if_there at (single_at owner single.UpdateRange)) _ (range_there _) (λ range is_range.
      bind IsNumber IsUpdateInForm (number_or at (single_at owner single.UpdateSeverity) 0) _ (number_read _ 0 (lit≤ tt)) (λ severity small.
      (or_formed IsRange range (below_version name.version) is_range (below_is_range name.version h.version), small)))

  touchpoint_read : IfRead (MayBe IsTouchpointInForm) (touchpoint_of at owner)
  unfolding touchpoint_of needed_touchpoint
  touchpoint_read =
      either (MayBe IsTouchpointInForm) (has_touchpoint at owner) _ _
      (bind IsTouchpointInForm (MayBe IsTouchpointInForm) (needed_touchpoint at owner) _
      (bind Any IsTouchpointInForm (needed_text at (single_at owner single.TouchpointId)) _ (text_read _) (λ id any.
      bind IsVersion IsTouchpointInForm (needed_version at (single_at owner single.TouchpointVersion)) _ (version_read _) (λ v is. is)))
      (λ touchpoint is. is))
      tt

  property_read : (row : ℕ) → IfRead Any (property_row at owner row)
  unfolding property_row
  property_read row =
      bind Any Any (needed_text at (property_key owner row property.Name)) _ (text_read _) (λ name any.
      bind Any Any (needed_text at (property_key owner row property.Value)) _ (text_read _) (λ value any. tt))

  provided_read : (v : Version) → IsVersion v → (row : ℕ) → IfRead HasVersion (provided_row at owner v row)
  unfolding provided_row
  provided_read v h row =
      bind Any HasVersion (needed_text at (provided_key owner row provided.Namespace)) _ (text_read _) (λ namespace any.
      bind Any HasVersion (needed_text at (provided_key owner row provided.Name)) _ (text_read _) (λ name any.
      bind (MayBe IsVersion) HasVersion (version_if_there at (provided_key owner row provided.Version)) _ (version_there _) (λ version is.
      or_formed IsVersion version v is h)))

  with_itself_formed : (name : UnitName) (provided : List Provided) → IsVersion name.version → All HasVersion provided → All HasVersion (with_itself name provided)
  with_itself_formed name provided h ps = by (list_any is_of_units provided)
    where
      by : (b : Bool) → All HasVersion (if b then provided else provided ++ record { namespace = codes "org.eclipse.equinox.p2.iu"; name = name.id; version = name.version } ∷ [])
      by true = ps
      by false = All-append HasVersion provided (record { namespace = codes "org.eclipse.equinox.p2.iu"; name = name.id; version = name.version } ∷ []) ps (All-cons HasVersion _ [] h (All-nil _))

  provided_formed : (name : UnitName) → IsVersion name.version → (rows : List ℕ) → IfRead (All HasVersion) (provided_of at owner name rows)
  unfolding provided_of
  provided_formed name h rows =
      bind (All HasVersion) (All HasVersion) (traverse (provided_row at owner name.version) rows) _ (each HasVersion _ rows (provided_read name.version h)) (λ provided ps.
      with_itself_formed name provided h ps)

  at_least : (optional : Bool) (min : ℕ) → IsNumber min → IsNumber (if optional then 0 else min)
  at_least true min h = lit≤ tt
  at_least false min h = h

  required_read : (row : ℕ) → IfRead IsRequiredInForm (required_row at owner row)
  unfolding required_row
  required_read row =
      bind Any IsRequiredInForm (needed_text at (required_key owner row required.Namespace)) _ (text_read _) (λ namespace any.
      bind Any IsRequiredInForm (needed_text at (required_key owner row required.Name)) _ (text_read _) (λ name any.
      bind (MayBe IsRange) IsRequiredInForm (range_if_there at (required_key owner row required.Range)) _ (range_there _) (λ range is_range.
      bind (MayBe IsFilter) IsRequiredInForm (filter_if_there at (required_key owner row required.Filter)) _ (filter_there _) (λ filter has_text.
      bind IsNumber IsRequiredInForm (number_or at (required_key owner row required.Min) 1) _ (number_read _ 1 (lit≤ tt)) (λ min min_small.
      bind IsNumber IsRequiredInForm (number_or at (required_key owner row required.Max) 2147483647) _ (number_read _ 2147483647 (lit≤ tt)) (λ max max_small.
      record { range = or_formed IsRange range any_version is_range any_is_range; filter = has_text; min = at_least _ min min_small; max = max_small }))))))

  all_any : {X : Type 0} (f : ℕ → Result X InfRefusal) (rows : List ℕ) → ((row : ℕ) → IfRead Any (f row)) → IfRead Any (traverse f rows)
  unfolding traverse
  all_any f [] h = tt
  all_any f (row ∷ rows) h = bind Any Any (f row) _ (h row) (λ x any. bind Any Any (traverse f rows) _ (all_any f rows h) (λ xs any. tt))

  as_long : {X : Type 0} (f : ℕ → Result X InfRefusal) (rows : List ℕ) → ((row : ℕ) → IfRead Any (f row)) → IfRead (λ xs. length xs ≡ length rows) (traverse f rows)
  unfolding traverse
  as_long f [] h = refl
  as_long f (row ∷ rows) h =
      bind Any (λ xs. length xs ≡ length (row ∷ rows)) (f row) _ (h row) (λ x any.
      bind (λ xs. length xs ≡ length rows) (λ xs. length xs ≡ length (row ∷ rows)) (traverse f rows) _ (as_long f rows h) (λ xs same. omega (arith, same)))

  both : {X : Type 0} (P Q : X → Type 0) (m : Result X InfRefusal) → IfRead P m → IfRead Q m → IfRead (λ x. P x × Q x) m
  both P Q (Ok x) p q = (p, q)
  both P Q (Err refusal) p q = p

  weaker : {X : Type 0} (P Q : X → Type 0) (m : Result X InfRefusal) → ((x : X) → P x → Q x) → IfRead P m → IfRead Q m
  weaker P Q (Ok x) f p = f x p
  weaker P Q (Err refusal) f p = p

  abbrev AreRequiredInForm : List Required → Type 0
  AreRequiredInForm required = All IsRequiredInForm required × (length required ≤ 1024)

  required_formed : (name : UnitName) (rows : List ℕ) → IfRead AreRequiredInForm (required_of at owner name rows)
  unfolding required_of
  required_formed name rows = by (nat_lt 1024 (length rows)) refl
    where
      by : (b : Bool) → nat_lt 1024 (length rows) ≡ b → IfRead AreRequiredInForm (if b then Err (TooManyRequirements name) else traverse (required_row at owner) rows)
      by true e = tt
      by false e =
          let few : length rows ≤ 1024 = grind (arith, nat_tests) in
          both (All IsRequiredInForm) (λ xs. length xs ≤ 1024) (traverse (required_row at owner) rows) (each IsRequiredInForm (required_row at owner) rows required_read)
          (weaker (λ xs. length xs ≡ length rows) (λ xs. length xs ≤ 1024) (traverse (required_row at owner) rows) (λ xs same. omega (arith, same, few))
          (as_long (required_row at owner) rows (λ row. weaker IsRequiredInForm Any (required_row at owner row) (λ x is. tt) (required_read row))))

  artifact_read : (row : ℕ) → IfRead IsArtifactInForm (artifact_row at owner row)
  unfolding artifact_row
  artifact_read row =
      bind IsUnitId IsArtifactInForm (needed_id at (artifact_key owner row artifact.Classifier)) _ (id_read _) (λ classifier is_classifier.
      bind IsUnitId IsArtifactInForm (needed_id at (artifact_key owner row artifact.Id)) _ (id_read _) (λ id is_id.
      bind IsVersion IsArtifactInForm (needed_version at (artifact_key owner row artifact.Version)) _ (version_read _) (λ v is_version.
      record { classifier = is_classifier; id = is_id; version = is_version })))

  one_more : (least : ℕ) (p : KeyPhase) (later : List PhaseText) → least ≤ phase_place (unit_phase p)
      → ArePhasesFrom (phase_place (unit_phase p) + 1) later → ArePhasesFrom least (phase_at at owner p ++ later)
  unfolding phase_at
  one_more least p later h ps =
      phase_first least p (unwrap_or (text_at at (key_at owner (part.Instruction p phase_field.Text))) [])
      (unwrap_or (text_at at (key_at owner (part.Instruction p phase_field.Import))) []) later h ps

  last_one : (least : ℕ) (p : KeyPhase) → least ≤ phase_place (unit_phase p) → ArePhasesFrom least (phase_at at owner p)
  last_one least p h = subst (ArePhasesFrom least) (append-nil (phase_at at owner p)) (one_more least p [] h tt)

  phases_formed : ArePhasesFrom 0 (phases_of at owner)
  unfolding phases_of
  phases_formed =
      let configure = phase_at at owner key_phase.Configure in
      let install = phase_at at owner key_phase.Install ++ configure in
      let uninstall = phase_at at owner key_phase.Uninstall ++ install in
      let unconfigure = phase_at at owner key_phase.Unconfigure ++ uninstall in
      let grouped = regroup (phase_at at owner key_phase.Collect) (phase_at at owner key_phase.Unconfigure) (phase_at at owner key_phase.Uninstall) (phase_at at owner key_phase.Install) configure in
      subst (ArePhasesFrom 0) (sym grouped)
      (one_more 0 key_phase.Collect unconfigure (lit≤ tt)
      (one_more 1 key_phase.Unconfigure uninstall (lit≤ tt)
      (one_more 2 key_phase.Uninstall install (lit≤ tt)
      (one_more 3 key_phase.Install configure (lit≤ tt) (last_one 4 key_phase.Configure (lit≤ tt))))))

  pub record IsHeadInForm (head : Head) : Type 0 where
    pub filter : IfSome head.filter IsFilter
    pub update : IsUpdateInForm head.update
    pub touchpoint : IfSome head.touchpoint IsTouchpointInForm

  head_formed : (name : UnitName) → IsNameInForm name → IfRead IsHeadInForm (head_of at owner name)
  unfolding head_of
  head_formed name h =
      bind (MayBe IsFilter) IsHeadInForm (filter_if_there at (single_at owner single.Filter)) _ (filter_there _) (λ filter has_text.
      bind IsUpdateInForm IsHeadInForm (update_of at owner name) _ (update_formed name h) (λ update is_update.
      bind (MayBe IsTouchpointInForm) IsHeadInForm (touchpoint_of at owner) _ touchpoint_read (λ touchpoint is_touchpoint.
      record { filter = has_text; update = is_update; touchpoint = is_touchpoint })))

  pub record AreListsInForm (lists : Lists) : Type 0 where
    pub provided : All HasVersion lists.provided
    pub required : AreRequiredInForm lists.required
    pub artifacts : All IsArtifactInForm lists.artifacts

  lists_formed : (places : List Place) (name : UnitName) → IsNameInForm name → IfRead AreListsInForm (lists_of at places owner name)
  unfolding lists_of
  lists_formed places name h =
      bind Any AreListsInForm (traverse (property_row at owner) (rows_in places owner 1)) _ (all_any (property_row at owner) (rows_in places owner 1) property_read) (λ properties any.
      bind (All HasVersion) AreListsInForm (provided_of at owner name (rows_in places owner 2)) _ (provided_formed name h.version (rows_in places owner 2)) (λ provided have.
      bind AreRequiredInForm AreListsInForm (required_of at owner name (rows_in places owner 3)) _ (required_formed name (rows_in places owner 3)) (λ required are.
      bind (All IsArtifactInForm) AreListsInForm (traverse (artifact_row at owner) (rows_in places owner 4)) _ (each IsArtifactInForm (artifact_row at owner) (rows_in places owner 4) artifact_read) (λ artifacts are_artifacts.
      record { provided = have; required = are; artifacts = are_artifacts }))))

  unit_formed : (host : Option UnitName) (places : List Place) → IsHostInForm host → IfRead IsUnitInForm (unit_of host at places owner)
  unfolding unit_of
  unit_formed host places h =
      bind IsNameInForm IsUnitInForm (name_of host at owner) _ (name_formed host h) (λ name is_name.
      bind IsHeadInForm IsUnitInForm (head_of at owner name) _ (head_formed name is_name) (λ head is_head.
      bind AreListsInForm IsUnitInForm (lists_of at places owner name) _ (lists_formed places name is_name) (λ lists are_lists.
      record {
        id = is_name.id;
        version = is_name.version;
        filter = is_head.filter;
        range = is_head.update.0;
        severity = is_head.update.1;
        touchpoint = is_head.touchpoint;
        provided = are_lists.provided;
        required = are_lists.required.0;
        few = are_lists.required.1;
        artifacts = are_lists.artifacts;
        phases = phases_formed;
      })))

-- ---- units

units_formed : (host : Option UnitName) (at : At) (places : List Place) (owners : List ℕ) (units : List Unit) → AreInForm at → IsHostInForm host → All IsUnitInForm units
    → IfRead (All IsUnitInForm) (units_from host at places units owners)
unfolding units_from
units_formed host at places [] units f h us = us
units_formed host at places (owner ∷ owners) units f h us =
    bind IsUnitInForm (All IsUnitInForm) (unit_of host at places owner) _ (unit_formed at owner f host places h) (λ unit is.
    either (All IsUnitInForm) (has_name units unit.name) (Err (Duplicate unit.name)) (units_from host at places (units ++ unit ∷ []) owners) is.version
    (units_formed host at places owners (units ++ unit ∷ []) f h (All-append IsUnitInForm units (unit ∷ []) us (All-cons IsUnitInForm unit [] is (All-nil _)))))

reading_read : (key : List ℕ) (found : Reading Key) → IfRead Any (taken_reading key found)
reading_read key (reading.Meaning named) = tt
reading_read key reading.Silent = tt
reading_read key reading.LeftOut = tt
reading_read key reading.Unknown = tt

hosted_read : {X : Type 0} (key : List ℕ) (found : Option X) → IfRead Any (hosted key found)
hosted_read key None = tt
hosted_read key (Some x) = tt

placed_read : (host : Option UnitName) (key text : List ℕ) (named : Option Key) → IfRead Any (placed host key text named)
placed_read host key text None = tt
placed_read host key text (Some named) =
    either Any (is_host named.owner && is_none host) (Err (NoHost key)) (Ok (Some (record { key = named; place = place_of named; text = text }))) tt tt

entry_read : (means : Meanings) (host : Option UnitName) (pair : Pair) → IfRead Any (entry_of means host pair)
unfolding entry_of taken
entry_read means host pair =
    bind Any Any (taken means pair.0) _ (reading_read pair.0 (means pair.0)) (λ named any.
    bind Any Any (hosted pair.0 (replaced host pair.1)) _ (hosted_read pair.0 (replaced host pair.1)) (λ text any. placed_read host pair.0 text named))

entries_read : (means : Meanings) (host : Option UnitName) (pairs : List Pair) → IfRead Any (entries_of means host pairs)
unfolding entries_of
entries_read means host [] = tt
entries_read means host (pair ∷ pairs) =
    bind Any Any (entry_of means host pair) _ (entry_read means host pair) (λ entry any. bind Any Any (entries_of means host pairs) _ (entries_read means host pairs) (λ entries any. tt))

-- What a p2.inf describes is in form.
pub units_of-in_form : (read : Readings) → ReadsAll read → (folder : List ℕ) (pairs : List Pair) → InForm (units_of read folder pairs)
unfolding units_of
units_of-in_form read reads folder pairs =
    let host = host_of read folder in
    as_in_form (units_in read host pairs)
    (bind Any (All IsUnitInForm) (entries_of read.key host pairs) _ (entries_read read.key host pairs) (λ entries any.
    units_formed host (value_at read entries) (places_of entries) (owners_of entries) [] (at_formed read reads entries) (host_formed read reads [] folder) (All-nil _)))
  where
    as_in_form : (m : Result (List Unit) InfRefusal) → IfRead (All IsUnitInForm) m → InForm m
    as_in_form (Ok units) h = h
    as_in_form (Err refusal) h = h

-- what was returned is in form, if it is what reading gives
pub given-in_form : (found : Result (List Unit) InfRefusal) (folder : List ℕ) (pairs : List Pair)
    → ((read : Readings) → ReadsAll read → Gives (λ units. units) found (units_of read folder pairs)) → InForm found
given-in_form (Ok units) folder pairs exact = subst InForm (exact readings readings_all) (units_of-in_form readings readings_all folder pairs)
given-in_form (Err (Duplicate name)) folder pairs exact = subst InForm (exact readings readings_all) (units_of-in_form readings readings_all folder pairs)
given-in_form (Err (UnknownKey key)) folder pairs exact = tt
given-in_form (Err (LeftOutKey key)) folder pairs exact = tt
given-in_form (Err (NoHost key)) folder pairs exact = tt
given-in_form (Err (MissingId number)) folder pairs exact = tt
given-in_form (Err (BadValue key)) folder pairs exact = tt
given-in_form (Err (TooManyRequirements name)) folder pairs exact = tt
given-in_form (Err NoMemory) folder pairs exact = tt
