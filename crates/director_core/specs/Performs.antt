-- What performing a plan does, by how it ends.
use Rattle.std.specs.Prelude.{◌≡◌, ℕ, List, [], ◌++◌, Some, None, Result, Ok, Err, ⊤, ◌⊎◌}
use Rattle.folder_core.specs.Folder.{Map}
use Rattle.folder_core.specs.declared.node.After.TheVariants.{Unchanged, Recover, Either}
use Rattle.unit_model.specs.declared.unit.Unit.{Unit}
use Rattle.director_words.specs.Lines.{done_line_of}
use Rattle.director_words.specs.declared.status.Status.{Status}
use Rattle.director_core.specs.Ends.{End, AtCommit, AtRefusal, AtFolderFault, AtMemoryFault, AtSinkFault, end_of}
use Rattle.director_core.specs.FirstInstall.{first_touches}
use Rattle.director_core.specs.Laid.{IsBegun, SameElsewhere, bare, laid}
use Rattle.director_core.specs.Printed.{IsFront, plan_lines}

-- Why it gave up.
abbrev pub FailsAt : (FolderFailed SinkFailed : Type 0) → End → Type 0
FailsAt FolderFailed SinkFailed AtCommit = ⊥
FailsAt FolderFailed SinkFailed (AtRefusal reason wording) = ⊥
FailsAt FolderFailed SinkFailed (AtFolderFault Unchanged) = ⊥
FailsAt FolderFailed SinkFailed (AtFolderFault Recover) = FolderFailed
FailsAt FolderFailed SinkFailed (AtFolderFault Either) = ⊥
FailsAt FolderFailed SinkFailed (AtMemoryFault Unchanged) = ⊤
FailsAt FolderFailed SinkFailed (AtMemoryFault Recover) = ⊤
FailsAt FolderFailed SinkFailed (AtMemoryFault Either) = ⊥
FailsAt FolderFailed SinkFailed (AtSinkFault None) = SinkFailed
FailsAt FolderFailed SinkFailed (AtSinkFault (Some number)) = (number ≡ 1) × SinkFailed

abbrev pub Fails : (FolderFailed SinkFailed : Type 0) → Status → Type 0
Fails FolderFailed SinkFailed status = FailsAt FolderFailed SinkFailed (end_of status)

-- what stands in the folder after that
abbrev pub LeavesFailedAt : List ℕ → Unit → Map → End → Map → Type 0
LeavesFailedAt profile unit old AtCommit new = new ≡ old
LeavesFailedAt profile unit old (AtRefusal reason wording) new = new ≡ old
LeavesFailedAt profile unit old (AtFolderFault left) new = SameElsewhere (first_touches profile unit) old new
LeavesFailedAt profile unit old (AtMemoryFault Unchanged) new = new ≡ old
LeavesFailedAt profile unit old (AtMemoryFault Recover) new = IsBegun (first_touches profile unit) bare new
LeavesFailedAt profile unit old (AtMemoryFault Either) new = ⊥
LeavesFailedAt profile unit old (AtSinkFault None) new = new ≡ old
LeavesFailedAt profile unit old (AtSinkFault (Some number)) new = new ≡ laid (first_touches profile unit) bare

abbrev pub LeavesFailed : List ℕ → Unit → Map → Status → Map → Type 0
LeavesFailed profile unit old status new = LeavesFailedAt profile unit old (end_of status) new

abbrev pub LeavesPerformed : List ℕ → Unit → Map → Result ⊤ Status → Map → Type 0
LeavesPerformed profile unit old (Ok done) new = new ≡ laid (first_touches profile unit) bare
LeavesPerformed profile unit old (Err status) new = LeavesFailed profile unit old status new

-- what was written before that
abbrev pub PrintsFailedAt : List ℕ → Unit → End → List ℕ → Type 0
PrintsFailedAt profile unit AtCommit lines = lines ≡ []
PrintsFailedAt profile unit (AtRefusal reason wording) lines = lines ≡ []
PrintsFailedAt profile unit (AtFolderFault left) lines = lines ≡ plan_lines profile unit
PrintsFailedAt profile unit (AtMemoryFault Unchanged) lines = (lines ≡ []) ⊎ (lines ≡ plan_lines profile unit)
PrintsFailedAt profile unit (AtMemoryFault Recover) lines = lines ≡ plan_lines profile unit
PrintsFailedAt profile unit (AtMemoryFault Either) lines = lines ≡ plan_lines profile unit
PrintsFailedAt profile unit (AtSinkFault None) lines = IsFront lines (plan_lines profile unit)
PrintsFailedAt profile unit (AtSinkFault (Some number)) lines =
    (front : List ℕ) × IsFront front (done_line_of profile 1) × (lines ≡ plan_lines profile unit ++ front)

abbrev pub PrintsFailed : List ℕ → Unit → Status → List ℕ → Type 0
PrintsFailed profile unit status lines = PrintsFailedAt profile unit (end_of status) lines

abbrev pub PrintsPerformed : List ℕ → Unit → Result ⊤ Status → List ℕ → Type 0
PrintsPerformed profile unit (Ok done) lines = lines ≡ plan_lines profile unit ++ done_line_of profile 1
PrintsPerformed profile unit (Err status) lines = PrintsFailed profile unit status lines

-- Lines stand behind what was written before, with this property.
abbrev pub Adds : (List ℕ → Type 0) → List ℕ → List ℕ → Type 0
Adds P old new = (lines : List ℕ) × P lines × (new ≡ old ++ lines)
