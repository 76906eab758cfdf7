-- One step after another of reading a source: what each leaves, and what it means that one of them stops.
use Rattle.std.proofs.Common.{◌≡◌, ◌<◌, ◌≤◌, ℕ, ◌+◌, List, [], ◌∷◌, ◌++◌, length, drop, get_or, Option, Some, None, Result, Ok, Err, sym, ap, ◌∙◌, subst}
use Rattle.std.specs.Option.{IsSomeAnd}
use Rattle.std.proofs.lemmas.List.{drop_more, drop_all}
use Rattle.folder_core.specs.Cause.{Rose}
use Rattle.folder_core.specs.Name.{AreRising, AreThose}
use Rattle.folder_core.specs.Step.{OnTold}
use Rattle.folder_core.specs.Tree.{Files, HasBelow}
use Rattle.unit_model.specs.declared.unit.Unit.{Unit}
use Rattle.inf_reader.specs.Readings.{Readings, ReadsAll}
use Rattle.inf_reader.proofs.ReadingLemmas.{readings, readings_all}
use Rattle.director_words.specs.declared.limit.LimitName.TheVariants.{InfBytes}
use Rattle.director_words.specs.declared.status.Status.{Status}
use Rattle.director_words.specs.declared.status.Status.TheVariants.{Limit}
use Rattle.director_source.specs.Source.{◌>>=◌, Gathered, counted, described, added, with_description, with_found, gathered, nothing_gathered, description_of, SourceGives, AreFolders}
use Rattle.director_source.specs.SourceStop.{StopsReading}
use Rattle.director_source.proofs.Gatherings.{rose_sooner, stops_weaker, added_none, folder_counted, folder_described, folder_added, folder_long, one_folder, no_folder}
use Rattle.director_source.proofs.Steps.{on_told_weaker}

-- ---- the units of one description

-- the next unit stands at the head of those that are left
next_unit : (before items : List Unit) (i : ℕ) (item copied : Unit) → i < length items → item ≡ get_or items i item → copied ≡ item
    → added before (drop i items) ≡ added before (copied ∷ drop (i + 1) items)
next_unit before items i item copied inside is same =
    ap (added before) (drop_more items i item inside ∙ ap (λ (u : Unit). u ∷ drop (i + 1) items) (sym is ∙ sym same))

pub unit_stops : (start before items all : List Unit) (i : ℕ) (item copied : Unit) (s : Status) → i < length items → item ≡ get_or items i item → copied ≡ item → items ≡ all
    → added before (drop i items) ≡ added start items
    → StopsReading (λ x. (more : List Unit) → added before (copied ∷ more) ≡ Err x) ⊥ s
    → StopsReading (λ x. added start all ≡ Err x) ⊥ s
unit_stops start before items all i item copied s inside is same whole so_far h =
    stops_weaker (λ (x : Status). (more : List Unit) → added before (copied ∷ more) ≡ Err x) (λ (x : Status). added start all ≡ Err x) ⊥ ⊥
    (λ x stops. ap (added start) (sym whole) ∙ (sym so_far ∙ (next_unit before items i item copied inside is same ∙ stops (drop (i + 1) items))))
    (λ never. never) s h

pub unit_added : (start before after items : List Unit) (i : ℕ) (item copied : Unit) → i < length items → item ≡ get_or items i item → copied ≡ item
    → added before (drop i items) ≡ added start items
    → ((more : List Unit) → added before (copied ∷ more) ≡ added after more)
    → added after (drop (i + 1) items) ≡ added start items
unit_added start before after items i item copied inside is same so_far adds =
    sym (adds (drop (i + 1) items)) ∙ (sym (next_unit before items i item copied inside is same) ∙ so_far)

pub units_added : (start now items all : List Unit) (i : ℕ) → length items ≤ i → items ≡ all → added now (drop i items) ≡ added start items → added start all ≡ Ok now
units_added start now items all i past whole so_far =
    ap (added start) (sym whole) ∙ (sym so_far ∙ (ap (added now) (drop_all i items past) ∙ added_none now))

-- ---- one description

abbrev Adds : List ℕ → Gathered → List ℕ → Result Gathered Status → Type 0
Adds folder g bytes r = (read : Readings) → ReadsAll read → with_description read folder g bytes ≡ r

abbrev Means : List ℕ → List ℕ → Result (List Unit) Status → Type 0
Means folder bytes r = (read : Readings) → ReadsAll read → described read folder bytes ≡ r

pub counting_stops : (folder : List ℕ) (g : Gathered) (bytes : List ℕ) (s : Status)
    → StopsReading (λ x. counted g.bytes bytes ≡ Err x) ⊥ s
    → StopsReading (λ x. (read : Readings) → ReadsAll read → with_description read folder g bytes ≡ Err x) ⊥ s
counting_stops folder g bytes s h =
    stops_weaker (λ (x : Status). counted g.bytes bytes ≡ Err x) (λ (x : Status). Adds folder g bytes (Err x)) ⊥ ⊥
    (λ x stops read reads. folder_counted read folder g bytes x stops) (λ never. never) s h

pub describing_stops : (folder : List ℕ) (g : Gathered) (bytes : List ℕ) (total : ℕ) (s : Status) → counted g.bytes bytes ≡ Ok total
    → StopsReading (λ x. (read : Readings) → ReadsAll read → described read folder bytes ≡ Err x) ⊥ s
    → StopsReading (λ x. (read : Readings) → ReadsAll read → with_description read folder g bytes ≡ Err x) ⊥ s
describing_stops folder g bytes total s count h =
    stops_weaker (λ (x : Status). Means folder bytes (Err x)) (λ (x : Status). Adds folder g bytes (Err x)) ⊥ ⊥
    (λ x stops read reads. folder_described read folder g bytes total x count (stops read reads)) (λ never. never) s h

pub adding_stops : (folder : List ℕ) (g : Gathered) (bytes : List ℕ) (total : ℕ) (more : List Unit) (s : Status) → counted g.bytes bytes ≡ Ok total
    → ((read : Readings) → ReadsAll read → described read folder bytes ≡ Ok more)
    → StopsReading (λ x. added g.units more ≡ Err x) ⊥ s
    → StopsReading (λ x. (read : Readings) → ReadsAll read → with_description read folder g bytes ≡ Err x) ⊥ s
adding_stops folder g bytes total more s count means h =
    stops_weaker (λ (x : Status). added g.units more ≡ Err x) (λ (x : Status). Adds folder g bytes (Err x)) ⊥ ⊥
    (λ x stops read reads. folder_added read folder g bytes total more (Err x) count (means read reads) stops) (λ never. never) s h

pub description_added : (folder : List ℕ) (g : Gathered) (bytes : List ℕ) (total : ℕ) (more units : List Unit) → counted g.bytes bytes ≡ Ok total
    → ((read : Readings) → ReadsAll read → described read folder bytes ≡ Ok more)
    → added g.units more ≡ Ok units
    → (read : Readings) → ReadsAll read → with_description read folder g bytes ≡ Ok (record { bytes = total; units = units })
description_added folder g bytes total more units count means adds read reads = folder_added read folder g bytes total more (Ok units) count (means read reads) adds

-- ---- one folder

abbrev Finds : Files → List ℕ → Gathered → Result Gathered Status → Type 0
Finds files folder g r = (read : Readings) → ReadsAll read → with_found read folder g (description_of files folder) ≡ r

abbrev IsLong : Files → List ℕ → Status → Type 0
IsLong files folder x = (x ≡ Limit InfBytes 1048576) × IsSomeAnd (description_of files folder) (λ bytes. 1048576 < length bytes)

finding_refused : (files : Files) (folder : List ℕ) (g : Gathered) (x : Status) → IsLong files folder x → Finds files folder g (Err x)
finding_refused files folder g x long read reads = folder_long read folder g (description_of files folder) long.1 ∙ ap (λ (y : Status). Err y) (sym long.0)

pub finding_stops : (a : Option Files) (folder : List ℕ) (g : Gathered) (R : Type 0) (s : Status)
    → StopsReading (λ x. OnTold a (λ files. (x ≡ Limit InfBytes 1048576) × IsSomeAnd (description_of files folder) (λ bytes. 1048576 < length bytes))) R s
    → StopsReading (λ x. OnTold a (λ files. (read : Readings) → ReadsAll read → with_found read folder g (description_of files folder) ≡ Err x)) R s
finding_stops a folder g R s h =
    stops_weaker (λ (x : Status). OnTold a (λ files. IsLong files folder x)) (λ (x : Status). OnTold a (λ files. Finds files folder g (Err x))) R R
    (λ x told. on_told_weaker a (λ files. IsLong files folder x) (λ files. Finds files folder g (Err x)) told (λ files long. finding_refused files folder g x long))
    (λ rose. rose) s h

-- ---- all folders

abbrev SoFar : Files → List (List ℕ) → Gathered → List (List ℕ) → Type 0
SoFar files folders g left = (read : Readings) → ReadsAll read → gathered read files nothing_gathered folders ≡ gathered read files g left

gives_source : (files : Files) (folders : List (List ℕ)) (r : Result Gathered Status) → AreFolders files folders → gathered readings files nothing_gathered folders ≡ r
    → SourceGives files (r >>= λ all. Ok all.units)
gives_source files folders r are e =
    record { read = readings; reads = readings_all; folders = folders; are_folders = are; gives = ap (λ (x : Result Gathered Status). x >>= λ all. Ok all.units) e }

-- what the next folder leaves
next_folder : (files : Files) (folders : List (List ℕ)) (g : Gathered) (i : ℕ) (folder : List ℕ) (r : Result Gathered Status) → i < length folders → folder ≡ get_or folders i folder
    → SoFar files folders g (drop i folders) → Finds files folder g r
    → (read : Readings) → ReadsAll read → gathered read files nothing_gathered folders ≡ (r >>= λ now. gathered read files now (drop (i + 1) folders))
next_folder files folders g i folder r inside is so_far finds read reads =
    so_far read reads ∙ (one_folder read files g folders i folder inside is ∙ ap (λ (x : Result Gathered Status). x >>= λ now. gathered read files now (drop (i + 1) folders)) (finds read reads))

source_refused : (files : Files) (folders : List (List ℕ)) (g : Gathered) (i : ℕ) (folder : List ℕ) (s : Status) → i < length folders → folder ≡ get_or folders i folder
    → AreFolders files folders → SoFar files folders g (drop i folders) → Finds files folder g (Err s) → SourceGives files (Err s)
source_refused files folders g i folder s inside is are so_far finds =
    gives_source files folders (Err s) are (next_folder files folders g i folder (Err s) inside is so_far finds readings readings_all)

source_ended : (files : Files) (folders : List (List ℕ)) (g : Gathered) (i : ℕ) → length folders ≤ i
    → AreFolders files folders → SoFar files folders g (drop i folders) → SourceGives files (Ok g.units)
source_ended files folders g i past are so_far =
    gives_source files folders (Ok g) are (so_far readings readings_all ∙ no_folder readings files g folders i past)

told_two : {T : Type 0} (a : Option T) (P Q R : T → Type 0) → OnTold a P → OnTold a Q → ((t : T) → P t → Q t → R t) → OnTold a R
told_two None P Q R p q f = tt
told_two (Some t) P Q R p q f = f t p q

told_three : {T : Type 0} (a : Option T) (P Q R S : T → Type 0) → OnTold a P → OnTold a Q → OnTold a R → ((t : T) → P t → Q t → R t → S t) → OnTold a S
told_three None P Q R S p q r f = tt
told_three (Some t) P Q R S p q r f = f t p q r

-- the folders, by what stands below the root
pub folders_known : (a : Option Files) (path names folders : List (List ℕ)) → path ≡ [] → folders ≡ names → AreRising names
    → OnTold a (λ files. AreThose (λ name. HasBelow files (path ++ name ∷ [])) names)
    → OnTold a (λ files. AreFolders files folders)
folders_known a path names folders root same rising those =
    on_told_weaker a (λ files. AreThose (λ name. HasBelow files (path ++ name ∷ [])) names) (λ files. AreFolders files folders) those
    (λ files known.
    let P : List (List ℕ) → Type 0 = λ p. AreThose (λ name. HasBelow files (p ++ name ∷ [])) names in
    let Q : List (List ℕ) → Type 0 = λ fs. AreFolders files fs in
    subst Q (sym same) (record { rising = rising; those = subst P root known }))

pub source_stops : (a b : Option Files) (folders : List (List ℕ)) (g : Gathered) (i : ℕ) (folder : List ℕ) (before between now : ℕ) (s : Status)
    → i < length folders → folder ≡ get_or folders i folder → b ≡ a → before ≤ between
    → OnTold a (λ files. AreFolders files folders)
    → OnTold a (λ files. (read : Readings) → ReadsAll read → gathered read files nothing_gathered folders ≡ gathered read files g (drop i folders))
    → StopsReading (λ x. OnTold b (λ files. (read : Readings) → ReadsAll read → with_found read folder g (description_of files folder) ≡ Err x)) (Rose between now) s
    → StopsReading (λ x. OnTold a (λ files. SourceGives files (Err x))) (Rose before now) s
source_stops a b folders g i folder before between now s inside is stays later are so_far h =
    stops_weaker (λ (x : Status). OnTold b (λ files. Finds files folder g (Err x))) (λ (x : Status). OnTold a (λ files. SourceGives files (Err x))) (Rose between now) (Rose before now)
    (λ x finds.
    let P : Option Files → Type 0 = λ o. OnTold o (λ files. Finds files folder g (Err x)) in
    told_three a (λ files. AreFolders files folders) (λ files. SoFar files folders g (drop i folders)) (λ files. Finds files folder g (Err x)) (λ files. SourceGives files (Err x))
    are so_far (subst P stays finds) (λ files are_folders sooner stops. source_refused files folders g i folder x inside is are_folders sooner stops))
    (λ rose. rose_sooner before between now later rose) s h

pub folder_read : (a b : Option Files) (folders : List (List ℕ)) (g next : Gathered) (i : ℕ) (folder : List ℕ)
    → i < length folders → folder ≡ get_or folders i folder → b ≡ a
    → OnTold a (λ files. (read : Readings) → ReadsAll read → gathered read files nothing_gathered folders ≡ gathered read files g (drop i folders))
    → OnTold b (λ files. (read : Readings) → ReadsAll read → with_found read folder g (description_of files folder) ≡ Ok next)
    → OnTold a (λ files. (read : Readings) → ReadsAll read → gathered read files nothing_gathered folders ≡ gathered read files next (drop (i + 1) folders))
folder_read a b folders g next i folder inside is stays so_far finds =
    let P : Option Files → Type 0 = λ o. OnTold o (λ files. Finds files folder g (Ok next)) in
    told_two a (λ files. SoFar files folders g (drop i folders)) (λ files. Finds files folder g (Ok next)) (λ files. SoFar files folders next (drop (i + 1) folders))
    so_far (subst P stays finds) (λ files sooner found. next_folder files folders g i folder (Ok next) inside is sooner found)

pub source_read : (a : Option Files) (folders : List (List ℕ)) (g : Gathered) (i : ℕ) → length folders ≤ i
    → OnTold a (λ files. AreFolders files folders)
    → OnTold a (λ files. (read : Readings) → ReadsAll read → gathered read files nothing_gathered folders ≡ gathered read files g (drop i folders))
    → OnTold a (λ files. SourceGives files (Ok g.units))
source_read a folders g i past are so_far =
    told_two a (λ files. AreFolders files folders) (λ files. SoFar files folders g (drop i folders)) (λ files. SourceGives files (Ok g.units))
    are so_far (λ files are_folders all. source_ended files folders g i past are_folders all)
