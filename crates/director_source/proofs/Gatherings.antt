-- What was gathered of a source, folder by folder.
use Rattle.std.proofs.Common.{◌≡◌, ◌⊎◌, ◌<◌, ◌≤◌, inl, inr, ⊎_elim, ℕ, ◌+◌, nat_le, nat_lt, Bool, true, false, List, [], ◌∷◌, ◌++◌, length, drop, get_or, Option, Some, None, Result, Ok, Err, All, Contains, cond, refl, sym, ap, subst, ◌∙◌, arith, length-append}
use Rattle.std.specs.Option.{IsSomeAnd}
use Rattle.std.proofs.lemmas.Bool.Decides.{nat_tests}
use Rattle.std.proofs.lemmas.Bool.{false≢true, cases_lt}
use Rattle.std.proofs.lemmas.List.{drop_more, drop_all}
use Rattle.std.proofs.lemmas.List.Elements.{All-nil, All-cons, All-append, Contains-get_or}
use Rattle.props_reader.specs.PairsOf.{Pair, pairs_of}
use Rattle.folder_core.specs.Cause.{Rose}
use Rattle.folder_core.specs.Tree.{Files}
use Rattle.folder_core.specs.declared.node.After.TheVariants.{Unchanged, Recover, Either}
use Rattle.unit_model.specs.Valid.{names}
use Rattle.unit_model.specs.declared.name.UnitName.{UnitName}
use Rattle.unit_model.specs.declared.unit.Unit.{Unit}
use Rattle.unit_catalog.specs.Named.{IsNew}
use Rattle.unit_catalog.specs.declared.fault.CatalogFault.{CatalogFault}
use Rattle.unit_catalog.specs.declared.fault.CatalogFault.TheVariants as faults
use Rattle.inf_reader.specs.declared.fault.InfRefusal.{InfRefusal}
use Rattle.inf_reader.specs.declared.fault.InfRefusal.TheVariants as refusals
use Rattle.inf_reader.specs.Gives.{Gives}
use Rattle.inf_reader.specs.InForm.{IsUnitInForm, IsRefusalInForm}
use Rattle.inf_reader.specs.UnitsOf.{same_name, has_name, units_of}
use Rattle.inf_reader.proofs.NameLemmas.{same_name-is}
use Rattle.inf_reader.specs.Readings.{Readings, ReadsAll}
use Rattle.director_words.specs.Status.{CanPrint}
use Rattle.director_words.specs.declared.limit.LimitName.TheVariants.{Units, InfBytes}
use Rattle.director_words.specs.declared.source_why.SourceWhy.TheVariants.{Line}
use Rattle.director_words.specs.declared.status.Status.{Status}
use Rattle.director_words.specs.declared.status.Status.TheVariants.{Done, NotBuilt, Usage, SourceRefused, Unknown, FolderFault, SourceFault, SinkFault, Limit, NoMemory}
use Rattle.director_source.specs.Source.{◌>>=◌, Gathered, counted, described, added, with_description, with_found, gathered, description_of, on_line, on_key, refusal_status}
use Rattle.director_source.specs.SourceStop.{StopsReading}
use Rattle.director_source.proofs.Apart.{named_there}
use Rattle.director_source.proofs.Folders.{later_there}

pub rose_sooner : (before between now : ℕ) → before ≤ between → Rose between now → Rose before now
rose_sooner before between now le rose = ⊎_elim (λ lt. inl (omega arith)) (λ last. inr last) rose

abbrev IsCause : Type 1
IsCause = Status → Type 0

-- A stop of a later call is one of the calls up to it.
pub stops_weaker : (P Q : IsCause) (R S : Type 0) → ((s : Status) → P s → Q s) → (R → S) → (s : Status) → StopsReading P R s → StopsReading Q S s
stops_weaker P Q R S f g (SourceRefused folder why) h = f (SourceRefused folder why) h
stops_weaker P Q R S f g (Limit what most) h = f (Limit what most) h
stops_weaker P Q R S f g SourceFault h = g h
stops_weaker P Q R S f g (NoMemory Unchanged) h = tt
stops_weaker P Q R S f g (NoMemory Recover) h = absurd h
stops_weaker P Q R S f g (NoMemory Either) h = absurd h
stops_weaker P Q R S f g Done h = absurd h
stops_weaker P Q R S f g NotBuilt h = absurd h
stops_weaker P Q R S f g Usage h = absurd h
stops_weaker P Q R S f g (Unknown word) h = absurd h
stops_weaker P Q R S f g (FolderFault after) h = absurd h
stops_weaker P Q R S f g (SinkFault committed) h = absurd h

-- ---- one description

pub described_ok : (read : Readings) (folder bytes : List ℕ) (pairs : List Pair) (units : List Unit) → pairs_of bytes ≡ Ok pairs → units_of read folder pairs ≡ Ok units → described read folder bytes ≡ Ok units
unfolding described
described_ok read folder bytes pairs units first second =
    ap (λ r. on_line folder r >>= λ ps. on_key folder (units_of read folder ps)) first ∙ ap (on_key folder) second

pub described_line : (read : Readings) (folder bytes : List ℕ) (line : ℕ) → pairs_of bytes ≡ Err line → described read folder bytes ≡ Err (SourceRefused folder (Line line))
unfolding described
described_line read folder bytes line first = ap (λ r. on_line folder r >>= λ ps. on_key folder (units_of read folder ps)) first

described_key : (read : Readings) (folder bytes : List ℕ) (pairs : List Pair) (refusal : InfRefusal) → pairs_of bytes ≡ Ok pairs → units_of read folder pairs ≡ Err refusal → described read folder bytes ≡ Err (refusal_status folder refusal)
unfolding described
described_key read folder bytes pairs refusal first second =
    ap (λ r. on_line folder r >>= λ ps. on_key folder (units_of read folder ps)) first ∙ ap (on_key folder) second

abbrev pub Describes : List ℕ → List ℕ → Result (List Unit) Status → Type 0
Describes folder bytes r = (read : Readings) → ReadsAll read → described read folder bytes ≡ r

module _ (folder bytes : List ℕ) (pairs : List Pair) (first : pairs_of bytes ≡ Ok pairs) where
  abbrev Refused : InfRefusal → Type 0
  Refused refusal = (read : Readings) → ReadsAll read → Gives (λ (units : List Unit). units) (Err refusal) (units_of read folder pairs)

  abbrev Stopped : InfRefusal → Type 0
  Stopped refusal = StopsReading (λ s. Describes folder bytes (Err s)) ⊥ (refusal_status folder refusal)

  pub refusal_stops : (refusal : InfRefusal) → Refused refusal → Stopped refusal
  refusal_stops (refusals.UnknownKey key) h = λ read reads. described_key read folder bytes pairs _ first (h read reads)
  refusal_stops (refusals.LeftOutKey key) h = λ read reads. described_key read folder bytes pairs _ first (h read reads)
  refusal_stops (refusals.NoHost key) h = λ read reads. described_key read folder bytes pairs _ first (h read reads)
  refusal_stops (refusals.MissingId number) h = λ read reads. described_key read folder bytes pairs _ first (h read reads)
  refusal_stops (refusals.BadValue key) h = λ read reads. described_key read folder bytes pairs _ first (h read reads)
  refusal_stops (refusals.Duplicate name) h = λ read reads. described_key read folder bytes pairs _ first (h read reads)
  refusal_stops (refusals.TooManyRequirements name) h = λ read reads. described_key read folder bytes pairs _ first (h read reads)
  refusal_stops refusals.NoMemory h = tt

pub refusal_printable : (folder : List ℕ) (refusal : InfRefusal) → IsRefusalInForm refusal → CanPrint (refusal_status folder refusal)
refusal_printable folder (refusals.UnknownKey key) h = tt
refusal_printable folder (refusals.LeftOutKey key) h = tt
refusal_printable folder (refusals.NoHost key) h = tt
refusal_printable folder (refusals.MissingId number) h = tt
refusal_printable folder (refusals.BadValue key) h = tt
refusal_printable folder (refusals.Duplicate name) h = h
refusal_printable folder (refusals.TooManyRequirements name) h = tt
refusal_printable folder refusals.NoMemory h = tt

-- ---- units added

pub added_old : (units more : List Unit) (u : Unit) → has_name units u.name ≡ true → added units (u ∷ more) ≡ added units more
unfolding added
added_old units more u there = rw there refl

pub added_full : (units more : List Unit) (u : Unit) → has_name units u.name ≡ false → 65536 ≤ length units → added units (u ∷ more) ≡ Err (Limit Units 65536)
unfolding added
added_full units more u new full = let test : nat_le 65536 (length units) ≡ true = grind (arith, nat_tests) in rw (new, test) refl

pub added_new : (units more : List Unit) (u : Unit) → has_name units u.name ≡ false → length units < 65536 → added units (u ∷ more) ≡ added (units ++ u ∷ []) more
unfolding added
added_new units more u new room = let test : nat_le 65536 (length units) ≡ false = grind (arith, nat_tests) in rw (new, test) refl

pub added_none : (units : List Unit) → added units [] ≡ Ok units
unfolding added
added_none units = refl

-- a unit of this name is there
name_there : (units : List Unit) (name : UnitName) → has_name units name ≡ true → Contains (names units) name
name_there [] name e = absurd (cc)
name_there (u ∷ units) name e = by (name_there units name) (same_name u.name name) refl
  where
    by : (has_name units name ≡ true → Contains (names units) name) → (b : Bool) → same_name u.name name ≡ b → Contains (u.name ∷ names units) name
    by later true f = (0, omega arith, same_name-is u.name name f)
    by later false f = later_there u.name (names units) name (later (cc))

-- no unit of this name is there
name_new : (units : List Unit) (name : UnitName) → has_name units name ≡ false → IsNew units name
name_new units name e k d inside same =
    let there = named_there units (get_or units k d) name (Contains-get_or units k d inside) same in
    false≢true (sym e ∙ there)

at_most_cases : {n m : ℕ} → n ≤ m → (n ≡ m) ⊎ (n < m)
at_most_cases {n} {m} le = ⊎_elim (λ below. inr below) (λ up. inl (omega (arith, le, up))) (cases_lt n m)

-- what a catalog answers to a unit, where it has these units
pub record Answers (old : List Unit) (u : Unit) (result : Result Bool CatalogFault) : Type 0 where
  pub named : Contains (names old) u.name → result ≡ Ok false
  pub full : IsNew old u.name → length old ≡ 65536 → result ≡ Err faults.Full
  pub room : IsNew old u.name → length old < 65536 → (result ≡ Ok true) ⊎ (result ≡ Err faults.NoMemory)

-- and what it has then
pub record IsEntered (old new : List Unit) (u : Unit) : Type 0 where
  pub few : length new ≤ 65536
  pub in_form : All IsUnitInForm new
  pub gives : (more : List Unit) → added old (u ∷ more) ≡ added new more

module _ (old : List Unit) (u : Unit) (few : length old ≤ 65536) (in_form : All IsUnitInForm old) (form : IsUnitInForm u) where
  entered_old : has_name old u.name ≡ true → IsEntered old old u
  entered_old there = record { few = few; in_form = in_form; gives = λ more. added_old old more u there }

  entered_new : has_name old u.name ≡ false → length old < 65536 → IsEntered old (old ++ u ∷ []) u
  entered_new new room = record {
    few = omega (arith, length-append old (u ∷ []));
    in_form = All-append IsUnitInForm old (u ∷ []) in_form (All-cons IsUnitInForm u [] form (All-nil IsUnitInForm));
    gives = λ more. added_new old more u new room;
  }

  pub unit_entered : (new : List Unit) (result : Result Bool CatalogFault) (is_new : Bool) → Answers old u result → result ≡ Ok is_new → new ≡ cond is_new (old ++ u ∷ []) old → IsEntered old new u
  unit_entered new result is_new answers is now = by (has_name old u.name) refl
    where
      P : List Unit → Type 0
      P units = IsEntered old units u

      by_room : has_name old u.name ≡ false → IsNew old u.name → (length old ≡ 65536) ⊎ (length old < 65536) → IsEntered old new u
      by_room e none (inl full) = let refused = answers.full none full in absurd (cc)
      by_room e none (inr room) = elim (answers.room none room) [
        | inl entered ↦
            let yes' : is_new ≡ true = cc in
            subst P (sym (now ∙ ap (λ b. cond b (old ++ u ∷ []) old) yes')) (entered_new e room)
        | inr refused ↦ absurd (cc)
      ]

      by : (there : Bool) → has_name old u.name ≡ there → IsEntered old new u
      by true e =
          let refused = answers.named (name_there old u.name e) in
          let none : is_new ≡ false = cc in
          subst P (sym (now ∙ ap (λ b. cond b (old ++ u ∷ []) old) none)) (entered_old e)
      by false e = by_room e (name_new old u.name e) (at_most_cases few)

  pub catalog_full : (result : Result Bool CatalogFault) → Answers old u result → result ≡ Err faults.Full → (more : List Unit) → added old (u ∷ more) ≡ Err (Limit Units 65536)
  catalog_full result answers is more = by (has_name old u.name) refl
    where
      by_room : has_name old u.name ≡ false → IsNew old u.name → (length old ≡ 65536) ⊎ (length old < 65536) → added old (u ∷ more) ≡ Err (Limit Units 65536)
      by_room e none (inl full) = added_full old more u e (omega (arith, full))
      by_room e none (inr room) = elim (answers.room none room) [
        | inl entered ↦ absurd (cc)
        | inr refused ↦ absurd (cc)
      ]

      by : (there : Bool) → has_name old u.name ≡ there → added old (u ∷ more) ≡ Err (Limit Units 65536)
      by true e = let refused = answers.named (name_there old u.name e) in absurd (cc)
      by false e = by_room e (name_new old u.name e) (at_most_cases few)

-- ---- one folder

module _ (read : Readings) (folder : List ℕ) (g : Gathered) (bytes : List ℕ) where
  pub folder_counted : (s : Status) → counted g.bytes bytes ≡ Err s → with_description read folder g bytes ≡ Err s
  unfolding with_description
  folder_counted s e = ap (λ r. r >>= λ total. described read folder bytes >>= λ more. added g.units more >>= λ units. Ok (record { bytes = total; units = units })) e

  pub folder_described : (total : ℕ) (s : Status) → counted g.bytes bytes ≡ Ok total → described read folder bytes ≡ Err s → with_description read folder g bytes ≡ Err s
  unfolding with_description
  folder_described total s e f =
      ap (λ r. r >>= λ total. described read folder bytes >>= λ more. added g.units more >>= λ units. Ok (record { bytes = total; units = units })) e
      ∙ ap (λ (r : Result (List Unit) Status). r >>= λ more. added g.units more >>= λ units. Ok (record { bytes = total; units = units })) f

  pub folder_added : (total : ℕ) (more : List Unit) (r : Result (List Unit) Status) → counted g.bytes bytes ≡ Ok total → described read folder bytes ≡ Ok more → added g.units more ≡ r
      → with_description read folder g bytes ≡ (r >>= λ units. Ok (record { bytes = total; units = units }))
  unfolding with_description
  folder_added total more r e f h =
      ap (λ r. r >>= λ total. described read folder bytes >>= λ more. added g.units more >>= λ units. Ok (record { bytes = total; units = units })) e
      ∙ (ap (λ (r : Result (List Unit) Status). r >>= λ more. added g.units more >>= λ units. Ok (record { bytes = total; units = units })) f
      ∙ ap (λ (r : Result (List Unit) Status). r >>= λ units. Ok (record { bytes = total; units = units })) h)

counted_long : (before : ℕ) (bytes : List ℕ) → 1048576 < length bytes → counted before bytes ≡ Err (Limit InfBytes 1048576)
unfolding counted
counted_long before bytes long = let test : nat_lt 1048576 (length bytes) ≡ true = grind (arith, nat_tests) in rw test refl

-- a description that is too long
pub folder_long : (read : Readings) (folder : List ℕ) (g : Gathered) (found : Option (List ℕ)) → IsSomeAnd found (λ bytes. 1048576 < length bytes) → with_found read folder g found ≡ Err (Limit InfBytes 1048576)
folder_long read folder g None long = absurd long
folder_long read folder g (Some bytes) long = folder_counted read folder g bytes (Limit InfBytes 1048576) (counted_long g.bytes bytes long)

-- ---- all folders

pub one_folder : (read : Readings) (files : Files) (g : Gathered) (folders : List (List ℕ)) (i : ℕ) (folder : List ℕ) → i < length folders → folder ≡ get_or folders i folder
    → gathered read files g (drop i folders) ≡ (with_found read folder g (description_of files folder) >>= λ now. gathered read files now (drop (i + 1) folders))
unfolding gathered
one_folder read files g folders i folder inside is =
    ap (gathered read files g) (drop_more folders i folder inside ∙ ap (λ f. f ∷ drop (i + 1) folders) (sym is))

pub no_folder : (read : Readings) (files : Files) (g : Gathered) (folders : List (List ℕ)) (i : ℕ) → length folders ≤ i → gathered read files g (drop i folders) ≡ Ok g
unfolding gathered
no_folder read files g folders i past = ap (gathered read files g) (drop_all i folders past)
