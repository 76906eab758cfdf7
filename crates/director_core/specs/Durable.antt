use Rattle.std.specs.Prelude.{◌≡◌, Some, None, Result, Ok, Err, ⊤}
use Rattle.folder_core.specs.Crash.{IsImage}
use Rattle.folder_core.specs.Folder.{Map, Told}
use Rattle.director_words.specs.declared.status.Status.{Status}
use Rattle.director_core.specs.Ends.{End, AtCommit, AtRefusal, AtFolderFault, AtMemoryFault, AtSinkFault, end_of}

-- Whatever a crash leaves at this moment is what stands now.
abbrev pub IsDurable : Told → Type 0
IsDurable t = (m : Map) → IsImage t m → m ≡ t.now

-- A fact that holds wherever the command has committed a state.
abbrev pub OnCommittedEnd : End → Type 0 → Type 0
OnCommittedEnd AtCommit P = P
OnCommittedEnd (AtRefusal reason wording) P = ⊤
OnCommittedEnd (AtFolderFault left) P = ⊤
OnCommittedEnd (AtMemoryFault left) P = ⊤
OnCommittedEnd (AtSinkFault None) P = ⊤
OnCommittedEnd (AtSinkFault (Some number)) P = P

abbrev pub OnCommitted : Status → Type 0 → Type 0
OnCommitted status P = OnCommittedEnd (end_of status) P

abbrev pub OnPerformed : Result (Unit {0}) Status → Type 0 → Type 0
OnPerformed (Ok done) P = P
OnPerformed (Err status) P = OnCommitted status P
