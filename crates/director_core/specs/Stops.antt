-- Why a stage before the plan gave up, each status with its cause. Want of memory has none.
use Rattle.std.specs.Prelude.{⊤}
use Rattle.folder_core.specs.declared.node.After.TheVariants.{Unchanged, Recover, Either}
use Rattle.director_words.specs.declared.status.Status.{Status}
use Rattle.director_core.specs.Ends.{NoRequest, OwnCause, FailedSource, End, AtCommit, AtRefusal, AtFolderFault, AtMemoryFault, AtSinkFault, end_of}

-- nothing has been written or changed
abbrev pub StopsAt : (Wrong FolderFailed SourceFailed Given : Type 0) → End → Type 0
StopsAt Wrong FolderFailed SourceFailed Given AtCommit = ⊥
StopsAt Wrong FolderFailed SourceFailed Given (AtRefusal NoRequest wording) = Wrong
StopsAt Wrong FolderFailed SourceFailed Given (AtRefusal OwnCause wording) = Given
StopsAt Wrong FolderFailed SourceFailed Given (AtRefusal FailedSource wording) = SourceFailed
StopsAt Wrong FolderFailed SourceFailed Given (AtFolderFault Unchanged) = FolderFailed
StopsAt Wrong FolderFailed SourceFailed Given (AtFolderFault Recover) = ⊥
StopsAt Wrong FolderFailed SourceFailed Given (AtFolderFault Either) = ⊥
StopsAt Wrong FolderFailed SourceFailed Given (AtMemoryFault Unchanged) = ⊤
StopsAt Wrong FolderFailed SourceFailed Given (AtMemoryFault Recover) = ⊥
StopsAt Wrong FolderFailed SourceFailed Given (AtMemoryFault Either) = ⊥
StopsAt Wrong FolderFailed SourceFailed Given (AtSinkFault committed) = ⊥

abbrev pub Stops : (Wrong FolderFailed SourceFailed : Type 0) → (Status → Type 0) → Status → Type 0
Stops Wrong FolderFailed SourceFailed Gives status = StopsAt Wrong FolderFailed SourceFailed (Gives status) (end_of status)
