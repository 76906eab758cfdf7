-- What the stages before the plan say of the answer.
use Rattle.std.proofs.Common.{◌≡◌, ℕ, List, Option, Some, None, Ok, Err, refl, sym, subst}
use Rattle.std.proofs.Common.{inl, inr, ⊎_elim}
use Rattle.folder_core.specs.Folder.{Told, Map}
use Rattle.folder_core.specs.Step.{OnTold, Step}
use Rattle.folder_core.specs.Tree.{Files}
use Rattle.folder_core.specs.declared.node.After.TheVariants.{Unchanged, Recover, Either}
use Rattle.unit_model.specs.declared.unit.Unit.{Unit}
use Rattle.director_words.specs.declared.status.Status.{Status}
use Rattle.director_words.specs.declared.status.Status.TheVariants.{Done, NotBuilt, Usage, SourceRefused, Unknown, FolderFault, SourceFault, SinkFault, Limit, NoMemory}
use Rattle.director_core.specs.Answer.{IsAsked, AsksFor, HasChild, Chooses, Installs, IsAnswerAt, IsAnswer}
use Rattle.director_core.specs.Built.{IsBuilt}
use Rattle.director_core.specs.Ends.{NoRequest, OwnCause, FailedSource, End, AtCommit, AtRefusal, AtFolderFault, AtMemoryFault, AtSinkFault, end_of}
use Rattle.director_core.specs.Found.{Finds, FindsNone}
use Rattle.director_core.specs.Laid.{IsBare}
use Rattle.director_core.specs.declared.plan.Plan.{Plan}
use Rattle.director_core.specs.Planned.{IsReady, IsUnplanned}
use Rattle.director_source.specs.Source.{SourceGives}
use Rattle.director_source.specs.SourceStop.{StopsReading}
use Rattle.director_core.specs.Stops.{StopsAt, Stops}
use Rattle.director_source.proofs.Steps.{both_weaker}

abbrev Causing : Type 1
Causing = Status → Type 0

-- weaker causes
stops_weaker_at : (end : End) (W F S G W' F' S' G' : Type 0) → (W → W') → (F → F') → (S → S') → (G → G') → StopsAt W F S G end → StopsAt W' F' S' G' end
stops_weaker_at AtCommit W F S G W' F' S' G' w f t g h = absurd h
stops_weaker_at (AtRefusal NoRequest wording) W F S G W' F' S' G' w f t g h = w h
stops_weaker_at (AtRefusal OwnCause wording) W F S G W' F' S' G' w f t g h = g h
stops_weaker_at (AtRefusal FailedSource wording) W F S G W' F' S' G' w f t g h = t h
stops_weaker_at (AtFolderFault Unchanged) W F S G W' F' S' G' w f t g h = f h
stops_weaker_at (AtFolderFault Recover) W F S G W' F' S' G' w f t g h = absurd h
stops_weaker_at (AtFolderFault Either) W F S G W' F' S' G' w f t g h = absurd h
stops_weaker_at (AtMemoryFault Unchanged) W F S G W' F' S' G' w f t g h = tt
stops_weaker_at (AtMemoryFault Recover) W F S G W' F' S' G' w f t g h = absurd h
stops_weaker_at (AtMemoryFault Either) W F S G W' F' S' G' w f t g h = absurd h
stops_weaker_at (AtSinkFault committed) W F S G W' F' S' G' w f t g h = absurd h

pub stops_weaker : (W F S : Type 0) (G : Causing) (W' F' S' : Type 0) (G' : Causing) → (W → W') → (F → F') → (S → S') → ((s : Status) → G s → G' s) → (s : Status) → Stops W F S G s → Stops W' F' S' G' s
stops_weaker W F S G W' F' S' G' w f t g s h = stops_weaker_at (end_of s) W F S (G s) W' F' S' (G' s) w f t (g s) h

pub reading_stops : (G : Causing) (R : Type 0) (s : Status) → StopsReading G R s → Stops ⊥ ⊥ R G s
reading_stops G R Done h = absurd h
reading_stops G R NotBuilt h = absurd h
reading_stops G R Usage h = absurd h
reading_stops G R (SourceRefused folder why) h = h
reading_stops G R (Unknown word) h = absurd h
reading_stops G R (FolderFault after) h = absurd h
reading_stops G R SourceFault h = h
reading_stops G R (SinkFault committed) h = absurd h
reading_stops G R (Limit what most) h = h
reading_stops G R (NoMemory Unchanged) h = tt
reading_stops G R (NoMemory Recover) h = absurd h
reading_stops G R (NoMemory Either) h = absurd h

-- the causes are those of the answer
stops_answer_at : (end : End) (words : List (List ℕ)) (m : Map) (files : Files) (s : Status) → StopsAt (IsAsked words → ⊥) (IsAsked words) (IsAsked words × IsBare m) (IsAnswerAt words m files s end) end → IsAnswerAt words m files s end
stops_answer_at AtCommit words m files s h = absurd h
stops_answer_at (AtRefusal NoRequest wording) words m files s h = h
stops_answer_at (AtRefusal OwnCause wording) words m files s h = h
stops_answer_at (AtRefusal FailedSource wording) words m files s h = h
stops_answer_at (AtFolderFault Unchanged) words m files s h = h
stops_answer_at (AtFolderFault Recover) words m files s h = absurd h
stops_answer_at (AtFolderFault Either) words m files s h = absurd h
stops_answer_at (AtMemoryFault Unchanged) words m files s h = tt
stops_answer_at (AtMemoryFault Recover) words m files s h = absurd h
stops_answer_at (AtMemoryFault Either) words m files s h = absurd h
stops_answer_at (AtSinkFault committed) words m files s h = absurd h

stops_answer : (words : List (List ℕ)) (m : Map) (files : Files) (s : Status) → Stops (IsAsked words → ⊥) (IsAsked words) (IsAsked words × IsBare m) (IsAnswer words m files) s → IsAnswer words m files s
stops_answer words m files s h = stops_answer_at (end_of s) words m files s h

-- a stage that stops for causes of its own alone
stage_answer : (words : List (List ℕ)) (m : Map) (files : Files) (G : Causing) → ((s : Status) → G s → IsAnswer words m files s) → (s : Status) → Stops ⊥ ⊥ ⊥ G s → IsAnswer words m files s
stage_answer words m files G g s h =
    stops_answer words m files s (stops_weaker ⊥ ⊥ ⊥ G (IsAsked words → ⊥) (IsAsked words) (IsAsked words × IsBare m) (IsAnswer words m files) (λ x. absurd x) (λ x. absurd x) (λ x. absurd x) g s h)

-- ---- the stages behind the words

pub folder_answer : (a : Option Told) (b : Option Files) (words : List (List ℕ)) (R : Type 0) (s : Status) → IsAsked words
    → Stops ⊥ R ⊥ (λ x. (x ≡ NotBuilt) × OnTold a (λ t. HasChild t.now)) s
    → OnTold a (λ t. OnTold b (λ files. IsAnswer words t.now files s))
folder_answer None b words R s asked h = tt
folder_answer (Some t) None words R s asked h = tt
folder_answer (Some t) (Some files) words R s asked h =
    stops_answer words t.now files s
    (stops_weaker ⊥ R ⊥ (λ x. (x ≡ NotBuilt) × HasChild t.now) (IsAsked words → ⊥) (IsAsked words) (IsAsked words × IsBare t.now) (IsAnswer words t.now files)
    (λ x. absurd x) (λ _. asked) (λ x. absurd x) (λ x child. subst (IsAnswer words t.now files) (sym child.0) (asked, inl child.1)) s h)

refused_answer : (words : List (List ℕ)) (m : Map) (files : Files) (R : Type 0) (s : Status) → IsAsked words → IsBare m → StopsReading (λ x. SourceGives files (Err x)) R s → IsAnswer words m files s
refused_answer words m files R Done asked bare h = absurd h
refused_answer words m files R NotBuilt asked bare h = absurd h
refused_answer words m files R Usage asked bare h = absurd h
refused_answer words m files R (SourceRefused folder why) asked bare h = (asked, bare, h)
refused_answer words m files R (Unknown word) asked bare h = absurd h
refused_answer words m files R (FolderFault after) asked bare h = absurd h
refused_answer words m files R SourceFault asked bare h = (asked, bare)
refused_answer words m files R (SinkFault committed) asked bare h = absurd h
refused_answer words m files R (Limit what most) asked bare h = inl (asked, bare, h)
refused_answer words m files R (NoMemory Unchanged) asked bare h = tt
refused_answer words m files R (NoMemory Recover) asked bare h = absurd h
refused_answer words m files R (NoMemory Either) asked bare h = absurd h

pub source_answer : (a : Option Told) (b : Option Files) (words : List (List ℕ)) (R : Type 0) (s : Status) → IsAsked words
    → OnTold a (λ t. IsBare t.now)
    → StopsReading (λ x. OnTold b (λ files. SourceGives files (Err x))) R s
    → OnTold a (λ t. OnTold b (λ files. IsAnswer words t.now files s))
source_answer None b words R s asked bare h = tt
source_answer (Some t) None words R s asked bare h = tt
source_answer (Some t) (Some files) words R s asked bare h = refused_answer words t.now files R s asked bare h

pub named_answer : (a : Option Told) (b : Option Files) (words : List (List ℕ)) (profile word : List ℕ) (units : List Unit) (s : Status) → AsksFor words profile word
    → OnTold a (λ t. IsBare t.now)
    → OnTold b (λ files. SourceGives files (Ok units))
    → Stops ⊥ ⊥ ⊥ (λ x. (x ≡ Unknown word) × FindsNone word units) s
    → OnTold a (λ t. OnTold b (λ files. IsAnswer words t.now files s))
named_answer None b words profile word units s asks bare gives h = tt
named_answer (Some t) None words profile word units s asks bare gives h = tt
named_answer (Some t) (Some files) words profile word units s asks bare gives h =
    stage_answer words t.now files (λ x. (x ≡ Unknown word) × FindsNone word units)
    (λ x none. subst (IsAnswer words t.now files) (sym none.0) (profile, units, asks, bare, gives, none.1)) s h

-- the unit that the words choose
pub chosen : (a : Option Told) (b : Option Files) (words : List (List ℕ)) (profile word : List ℕ) (units : List Unit) (unit : Unit) → AsksFor words profile word
    → OnTold a (λ t. IsBare t.now)
    → OnTold b (λ files. SourceGives files (Ok units))
    → Finds word units unit
    → OnTold a (λ t. OnTold b (λ files. Chooses words t.now files profile unit))
chosen None b words profile word units unit asks bare gives finds = tt
chosen (Some t) None words profile word units unit asks bare gives finds = tt
chosen (Some t) (Some files) words profile word units unit asks bare gives finds =
    record { word = word; asks = asks; is_bare = bare; units = units; gives = gives; finds = finds }

unplanned : (words : List (List ℕ)) (m : Map) (files : Files) (profile : List ℕ) (unit : Unit) → Chooses words m files profile unit → (s : Status) → IsUnplanned profile unit s → IsAnswer words m files s
unplanned words m files profile unit chooses s why =
    ⊎_elim
    (λ part. subst (IsAnswer words m files) (sym part.0) ((profile, chooses.word, chooses.asks), inr (profile, unit, chooses, part.1)))
    (λ long. subst (IsAnswer words m files) (sym long.0) (inr (refl, refl, (profile, unit, chooses, long.1, long.2))))
    why

pub planned_answer : (a : Option Told) (b : Option Files) (words : List (List ℕ)) (profile : List ℕ) (unit : Unit) (s : Status)
    → OnTold a (λ t. OnTold b (λ files. Chooses words t.now files profile unit))
    → Stops ⊥ ⊥ ⊥ (IsUnplanned profile unit) s
    → OnTold a (λ t. OnTold b (λ files. IsAnswer words t.now files s))
planned_answer a b words profile unit s chooses h =
    both_weaker a b (λ t files. Chooses words t.now files profile unit) (λ t files. IsAnswer words t.now files s) chooses
    (λ t files c. stage_answer words t.now files (IsUnplanned profile unit) (unplanned words t.now files profile unit c) s h)

-- the plan is for the unit that was chosen
pub installed : (a : Option Told) (b : Option Files) (words : List (List ℕ)) (profile : List ℕ) (unit : Unit) (plan : Plan)
    → OnTold a (λ t. OnTold b (λ files. Chooses words t.now files profile unit)) → IsBuilt unit → (plan.profile ≡ profile) × (plan.unit ≡ unit) → IsReady plan
    → OnTold a (λ t. OnTold b (λ files. Installs words t.now files plan.profile plan.unit))
installed a b words profile unit plan choice built same ready =
    both_weaker a b (λ t files. Chooses words t.now files profile unit) (λ t files. Installs words t.now files plan.profile plan.unit) choice
    (λ t files c.
    let P : List ℕ → Type 0 = λ p. Chooses words t.now files p unit in
    let Q : Unit → Type 0 = λ u. Chooses words t.now files plan.profile u in
    record {
      chooses = subst Q (sym same.1) (subst P (sym same.0) c);
      is_built = subst IsBuilt (sym same.1) built;
      fits = ready.fits;
    })

-- the root is bare where it has no names below it, and has a child where it has one
pub still_bare : (a b : Option Told) → Step a b (λ s t. t.now ≡ s.now) → OnTold a (λ s. IsBare s.now) → OnTold b (λ s. IsBare s.now)
still_bare None None stays is_bare = tt
still_bare None (Some t) stays is_bare = absurd stays
still_bare (Some s) None stays is_bare = absurd stays
still_bare (Some s) (Some t) stays is_bare = subst IsBare (sym stays) is_bare
