-- Which answer an install has, and what it leaves: by the words, the folder and the source, in the order in which
-- they are read.
use Rattle.std.specs.Prelude.{◌≡◌, ℕ, ◌<◌, ◌≤◌, length, List, [], ◌∷◌, Some, None, IsSome, Ok, Err, ⊤, ◌⊎◌}
use Rattle.folder_core.specs.Folder.{Map}
use Rattle.folder_core.specs.Tree.{Files}
use Rattle.folder_core.specs.declared.node.After.TheVariants.{Unchanged, Recover, Either}
use Rattle.unit_model.specs.declared.unit.Unit.{Unit}
use Rattle.director_words.specs.Request.{Asks}
use Rattle.director_words.specs.declared.request.Request.TheVariants.{Install}
use Rattle.director_words.specs.declared.status.Status.{Status}
use Rattle.director_words.specs.declared.status.Status.TheVariants.{NotBuilt, Usage, SourceRefused, Unknown, SinkFault, Limit, NoMemory}
use Rattle.director_words.specs.declared.limit.LimitName.TheVariants.{FileBytes}
use Rattle.director_core.specs.Built.{IsBuilt}
use Rattle.director_core.specs.Ends.{NoRequest, OwnCause, FailedSource, End, AtCommit, AtRefusal, AtFolderFault, AtMemoryFault, AtSinkFault, end_of}
use Rattle.director_core.specs.FirstInstall.{first_state, first_touches}
use Rattle.director_core.specs.Found.{Finds, FindsNone}
use Rattle.director_core.specs.Laid.{IsBare, IsBegun, SameElsewhere, bare, laid}
use Rattle.director_source.specs.Source.{SourceGives}
use Rattle.director_core.specs.StateText.{state_text}

-- The words ask to install one root, named by this word, into the profile. No search is needed for a unit that
-- requires nothing, so the budget is of no matter.
pub record AsksFor (words : List (List ℕ)) (profile word : List ℕ) : Type 0 where
  pub budget : ℕ
  pub asks : Asks words (Install profile budget (word ∷ []))

-- The words denote a request that is built.
abbrev pub IsAsked : List (List ℕ) → Type 0
IsAsked words = (profile word : List ℕ) × AsksFor words profile word

abbrev pub HasChild : Map → Type 0
HasChild m = (name : List ℕ) × IsSome (m (name ∷ []))

-- The word names this unit of the source, and the folder is empty.
pub record Chooses (words : List (List ℕ)) (m : Map) (files : Files) (profile : List ℕ) (unit : Unit) : Type 0 where
  pub word : List ℕ
  pub asks : AsksFor words profile word
  pub is_bare : IsBare m
  pub units : List Unit
  pub gives : SourceGives files (Ok units)
  pub finds : Finds word units unit

-- the text of the first state
abbrev pub first_text : List ℕ → Unit → List ℕ
first_text profile unit = state_text (first_state profile unit)

-- The unit is to be installed into the profile.
pub record Installs (words : List (List ℕ)) (m : Map) (files : Files) (profile : List ℕ) (unit : Unit) : Type 0 where
  pub chooses : Chooses words m files profile unit
  pub is_built : IsBuilt unit
  pub fits : length (first_text profile unit) ≤ 67108864

abbrev pub CanInstall : List (List ℕ) → Map → Files → Type 0
CanInstall words m files = (profile : List ℕ) × (unit : Unit) × Installs words m files profile unit

-- The unit that the word names has a part that isn't built.
abbrev pub WantsPart : List (List ℕ) → Map → Files → Type 0
WantsPart words m files = (profile : List ℕ) × (unit : Unit) × Chooses words m files profile unit × ¬ (IsBuilt unit)

-- The request wants more than is built: a folder that isn't empty, or such a unit.
abbrev pub WantsMore : List (List ℕ) → Map → Files → Type 0
WantsMore words m files = IsAsked words × (HasChild m ⊎ WantsPart words m files)

-- The source is refused so, or passes a limit.
abbrev pub IsRefused : List (List ℕ) → Map → Files → Status → Type 0
IsRefused words m files status = IsAsked words × IsBare m × SourceGives files (Err status)

-- The text of the first state is longer than a file may be.
abbrev pub IsTooLong : List (List ℕ) → Map → Files → Type 0
IsTooLong words m files =
    (profile : List ℕ) × (unit : Unit) × Chooses words m files profile unit × IsBuilt unit
    × (67108864 < length (first_text profile unit))

-- The word names no unit of the source.
abbrev pub NamesUnknown : List (List ℕ) → Map → Files → List ℕ → Type 0
NamesUnknown words m files word =
    (profile : List ℕ) × (units : List Unit) × AsksFor words profile word × IsBare m × SourceGives files (Ok units)
    × FindsNone word units

-- Why a status with a cause of its own comes.
abbrev pub IsCause : List (List ℕ) → Map → Files → Status → Type 0
IsCause words m files NotBuilt = WantsMore words m files
IsCause words m files (SourceRefused folder why) = IsRefused words m files (SourceRefused folder why)
IsCause words m files (Unknown word) = NamesUnknown words m files word
IsCause words m files (Limit what most) =
    IsRefused words m files (Limit what most) ⊎ ((what ≡ FileBytes) × (most ≡ 67108864) × IsTooLong words m files)
IsCause words m files other = ⊥

-- A fault and want of memory have their causes elsewhere; they say how far the command was.
abbrev pub IsAnswerAt : List (List ℕ) → Map → Files → Status → End → Type 0
IsAnswerAt words m files status AtCommit = CanInstall words m files
IsAnswerAt words m files status (AtRefusal NoRequest wording) = ¬ (IsAsked words)
IsAnswerAt words m files status (AtRefusal OwnCause wording) = IsCause words m files status
IsAnswerAt words m files status (AtRefusal FailedSource wording) = IsAsked words × IsBare m
IsAnswerAt words m files status (AtFolderFault Unchanged) = IsAsked words
IsAnswerAt words m files status (AtFolderFault Recover) = CanInstall words m files
IsAnswerAt words m files status (AtFolderFault Either) = ⊥
IsAnswerAt words m files status (AtMemoryFault Unchanged) = ⊤
IsAnswerAt words m files status (AtMemoryFault Recover) = CanInstall words m files
IsAnswerAt words m files status (AtMemoryFault Either) = ⊥
IsAnswerAt words m files status (AtSinkFault None) = ⊤
IsAnswerAt words m files status (AtSinkFault (Some number)) = (number ≡ 1) × CanInstall words m files

-- why this answer comes
abbrev pub IsAnswer : List (List ℕ) → Map → Files → Status → Type 0
IsAnswer words m files status = IsAnswerAt words m files status (end_of status)

-- how a command ends where nothing of the outside fails and memory is there
abbrev pub IsPlainEnd : End → Type 0
IsPlainEnd AtCommit = ⊤
IsPlainEnd (AtRefusal NoRequest wording) = ⊤
IsPlainEnd (AtRefusal OwnCause wording) = ⊤
IsPlainEnd (AtRefusal FailedSource wording) = ⊥
IsPlainEnd (AtFolderFault left) = ⊥
IsPlainEnd (AtMemoryFault left) = ⊥
IsPlainEnd (AtSinkFault committed) = ⊥

-- what it answers then
abbrev pub IsPlainAnswer : Status → Type 0
IsPlainAnswer status = IsPlainEnd (end_of status)

-- The answer is the one, or a fault or want of memory came before it.
abbrev pub IsAnswerOrFault : Status → Status → Type 0
IsAnswerOrFault answer status = (status ≡ answer) ⊎ (IsPlainAnswer status → ⊥)

-- Words that denote no request are answered so, whatever the outside tells.
abbrev pub IsUsageOrFault : Status → Type 0
IsUsageOrFault status = (status ≡ Usage) ⊎ (status ≡ SinkFault None) ⊎ (status ≡ NoMemory Unchanged)

-- The folder holds the first install, and nothing else.
abbrev pub HasInstalled : List (List ℕ) → Map → Files → Map → Type 0
HasInstalled words old files new =
    (profile : List ℕ) × (unit : Unit) × Installs words old files profile unit × (new ≡ laid (first_touches profile unit) bare)

-- The folder holds a front of the first install, which lacks the last node, the one that commits it, and nothing else.
abbrev pub HasBegun : List (List ℕ) → Map → Files → Map → Type 0
HasBegun words old files new =
    (profile : List ℕ) × (unit : Unit) × Installs words old files profile unit × IsBegun (first_touches profile unit) bare new

-- At each path that the first install doesn't put, the folder is as it was.
abbrev pub IsKeptElsewhere : List (List ℕ) → Map → Files → Map → Type 0
IsKeptElsewhere words old files new =
    (profile : List ℕ) × (unit : Unit) × Installs words old files profile unit
    × SameElsewhere (first_touches profile unit) old new

-- what the folder holds at each end
abbrev pub LeavesAt : List (List ℕ) → Map → Files → End → Map → Type 0
LeavesAt words old files AtCommit new = HasInstalled words old files new
LeavesAt words old files (AtRefusal reason wording) new = new ≡ old
LeavesAt words old files (AtFolderFault Unchanged) new = new ≡ old
-- a recovery has to follow
LeavesAt words old files (AtFolderFault Recover) new = IsKeptElsewhere words old files new
LeavesAt words old files (AtFolderFault Either) new = ⊥
LeavesAt words old files (AtMemoryFault Unchanged) new = new ≡ old
LeavesAt words old files (AtMemoryFault Recover) new = HasBegun words old files new
LeavesAt words old files (AtMemoryFault Either) new = ⊥
LeavesAt words old files (AtSinkFault None) new = new ≡ old
LeavesAt words old files (AtSinkFault (Some number)) new = HasInstalled words old files new

abbrev pub Leaves : List (List ℕ) → Map → Files → Status → Map → Type 0
Leaves words old files status new = LeavesAt words old files (end_of status) new
