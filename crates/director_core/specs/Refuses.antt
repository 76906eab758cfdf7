-- How a refusal ends, once its lines are written.
use Rattle.std.specs.Prelude.{◌≡◌, ℕ, List, [], None, ◌⊎◌}
use Rattle.folder_core.specs.declared.node.After.TheVariants.{Unchanged}
use Rattle.director_words.specs.declared.status.Status.{Status}
use Rattle.director_words.specs.declared.status.Status.TheVariants.{SinkFault, NoMemory}
use Rattle.director_core.specs.Ends.{Fixed, MadeUp, End, AtCommit, AtRefusal, AtFolderFault, AtMemoryFault, AtSinkFault, end_of}
use Rattle.director_core.specs.Printed.{IsFront, IsFaultPrinted, refusal_lines}

-- As it is, or as a fault of the sink.
abbrev pub EndsOrFails : Status → Status → Type 0 → Type 0
EndsOrFails status result SinkFailed = (result ≡ status) ⊎ ((result ≡ SinkFault None) × SinkFailed)

-- The same, or there is no memory for its lines.
abbrev pub EndsWithMemory : Status → Status → Type 0 → Type 0
EndsWithMemory status result SinkFailed = EndsOrFails status result SinkFailed ⊎ (result ≡ NoMemory Unchanged)

-- A fault and want of memory stay what they are, whether their line is written or not.
abbrev pub EndsAt : End → Status → Status → Type 0 → Type 0
EndsAt AtCommit status result SinkFailed = result ≡ status
EndsAt (AtRefusal reason Fixed) status result SinkFailed = EndsOrFails status result SinkFailed
EndsAt (AtRefusal reason MadeUp) status result SinkFailed = EndsWithMemory status result SinkFailed
EndsAt (AtFolderFault left) status result SinkFailed = result ≡ status
EndsAt (AtMemoryFault left) status result SinkFailed = result ≡ status
EndsAt (AtSinkFault committed) status result SinkFailed = result ≡ status

abbrev pub Ends : Status → Status → Type 0 → Type 0
Ends status result SinkFailed = EndsAt (end_of status) status result SinkFailed

-- All the lines are written, or a front of them where the sink failed.
abbrev pub WritesOrFails : Status → Status → List ℕ → Type 0
WritesOrFails status result lines =
    ((result ≡ status) × (lines ≡ refusal_lines status)) ⊎ ((result ≡ SinkFault None) × IsFront lines (refusal_lines status))

-- The same, or there was no memory for them.
abbrev pub WritesWithMemory : (SinkFailed : Type 0) → Status → Status → List ℕ → Type 0
WritesWithMemory SinkFailed status result lines =
    WritesOrFails status result lines ⊎ ((result ≡ NoMemory Unchanged) × IsFaultPrinted SinkFailed (NoMemory Unchanged) lines)

abbrev pub WritesRefusalAt : (SinkFailed : Type 0) → End → Status → Status → List ℕ → Type 0
WritesRefusalAt SinkFailed AtCommit status result lines = lines ≡ []
WritesRefusalAt SinkFailed (AtRefusal reason Fixed) status result lines = WritesOrFails status result lines
WritesRefusalAt SinkFailed (AtRefusal reason MadeUp) status result lines = WritesWithMemory SinkFailed status result lines
WritesRefusalAt SinkFailed (AtFolderFault left) status result lines = IsFaultPrinted SinkFailed status lines
WritesRefusalAt SinkFailed (AtMemoryFault left) status result lines = IsFaultPrinted SinkFailed status lines
WritesRefusalAt SinkFailed (AtSinkFault committed) status result lines = lines ≡ []

abbrev pub WritesRefusal : (SinkFailed : Type 0) → Status → Status → List ℕ → Type 0
WritesRefusal SinkFailed status result lines = WritesRefusalAt SinkFailed (end_of status) status result lines
