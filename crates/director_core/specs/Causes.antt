use Rattle.std.specs.Prelude.{◌≡◌, Some, None, ⊤}
use Rattle.folder_core.specs.declared.node.After.TheVariants.{Unchanged, Recover, Either}
use Rattle.director_words.specs.declared.status.Status.{Status}
use Rattle.director_core.specs.Ends.{NoRequest, OwnCause, FailedSource, End, AtCommit, AtRefusal, AtFolderFault, AtMemoryFault, AtSinkFault, end_of}

-- A fault comes only where that object failed. The one state that can be committed is the first, and what a failure
-- left is never in doubt.
abbrev pub EndHasCauses : (FolderFailed SourceFailed SinkFailed : Type 0) → End → Type 0
EndHasCauses FolderFailed SourceFailed SinkFailed AtCommit = ⊤
EndHasCauses FolderFailed SourceFailed SinkFailed (AtRefusal NoRequest wording) = ⊤
EndHasCauses FolderFailed SourceFailed SinkFailed (AtRefusal OwnCause wording) = ⊤
EndHasCauses FolderFailed SourceFailed SinkFailed (AtRefusal FailedSource wording) = SourceFailed
EndHasCauses FolderFailed SourceFailed SinkFailed (AtFolderFault Unchanged) = FolderFailed
EndHasCauses FolderFailed SourceFailed SinkFailed (AtFolderFault Recover) = FolderFailed
EndHasCauses FolderFailed SourceFailed SinkFailed (AtFolderFault Either) = ⊥
EndHasCauses FolderFailed SourceFailed SinkFailed (AtMemoryFault Unchanged) = ⊤
EndHasCauses FolderFailed SourceFailed SinkFailed (AtMemoryFault Recover) = ⊤
EndHasCauses FolderFailed SourceFailed SinkFailed (AtMemoryFault Either) = ⊥
EndHasCauses FolderFailed SourceFailed SinkFailed (AtSinkFault None) = SinkFailed
EndHasCauses FolderFailed SourceFailed SinkFailed (AtSinkFault (Some number)) = (number ≡ 1) × SinkFailed

abbrev pub HasCauses : (FolderFailed SourceFailed SinkFailed : Type 0) → Status → Type 0
HasCauses FolderFailed SourceFailed SinkFailed status = EndHasCauses FolderFailed SourceFailed SinkFailed (end_of status)
