-- What a command prints.
use Rattle.std.specs.Prelude.{◌≡◌, ℕ, List, ◌++◌, Some, None, ◌⊎◌}
use Rattle.folder_core.specs.Folder.{Map}
use Rattle.folder_core.specs.Tree.{Files}
use Rattle.unit_model.specs.declared.unit.Unit.{Unit}
use Rattle.folder_core.specs.declared.node.After.TheVariants.{Unchanged, Recover, Either}
use Rattle.director_words.specs.Lines.{plan_line_of, add_line_of, done_line_of}
use Rattle.director_words.specs.Status.{short_line_of, lines_of}
use Rattle.director_words.specs.declared.status.Status.{Status}
use Rattle.director_core.specs.Ends.{End, AtCommit, AtRefusal, AtFolderFault, AtMemoryFault, AtSinkFault, end_of}
use Rattle.director_core.specs.Answer.{Installs, IsAnswer}

-- front is the whole, or as much of it as was written
abbrev pub IsFront : List ℕ → List ℕ → Type 0
IsFront front whole = (rest : List ℕ) × (front ++ rest ≡ whole)

-- The whole is written, or a front of it where the sink failed.
abbrev pub IsWritten : (SinkFailed : Type 0) → List ℕ → List ℕ → Type 0
IsWritten SinkFailed lines whole = (lines ≡ whole) ⊎ (SinkFailed × IsFront lines whole)

-- the plan of the first install
abbrev pub plan_lines : List ℕ → Unit → List ℕ
plan_lines profile unit = plan_line_of profile 1 ++ add_line_of unit.name

-- the lines of a refusal
abbrev pub refusal_lines : Status → List ℕ
refusal_lines status = short_line_of status ++ lines_of status

-- The plan was written, and it is the one that is performed.
abbrev pub IsPlan : List (List ℕ) → Map → Files → List ℕ → Type 0
IsPlan words m files lines =
    (profile : List ℕ) × (unit : Unit) × Installs words m files profile unit × (lines ≡ plan_lines profile unit)

-- The plan and the last line, as far as the second was written.
abbrev pub IsPlanAndFront : List (List ℕ) → Map → Files → List ℕ → Type 0
IsPlanAndFront words m files lines =
    (profile : List ℕ) × (unit : Unit) × (front : List ℕ) × Installs words m files profile unit
    × IsFront front (done_line_of profile 1) × (lines ≡ plan_lines profile unit ++ front)

-- A fault's line alone.
abbrev pub IsFaultPrinted : (SinkFailed : Type 0) → Status → List ℕ → Type 0
IsFaultPrinted SinkFailed status lines = IsWritten SinkFailed lines (short_line_of status)

-- The plan, and a fault's line behind it.
abbrev pub IsPlanAndFault : (SinkFailed : Type 0) → List (List ℕ) → Map → Files → Status → List ℕ → Type 0
IsPlanAndFault SinkFailed words m files status lines =
    (plan fault : List ℕ) × IsPlan words m files plan × IsFaultPrinted SinkFailed status fault × (lines ≡ plan ++ fault)

-- what is printed at each end
abbrev pub PrintsAt : (SinkFailed : Type 0) → List (List ℕ) → Map → Files → Status → End → List ℕ → Type 0
PrintsAt SinkFailed words m files status AtCommit lines =
    (profile : List ℕ) × (unit : Unit) × Installs words m files profile unit
    × (lines ≡ plan_lines profile unit ++ done_line_of profile 1)
PrintsAt SinkFailed words m files status (AtRefusal reason wording) lines = lines ≡ refusal_lines status
PrintsAt SinkFailed words m files status (AtFolderFault Unchanged) lines = IsFaultPrinted SinkFailed status lines
PrintsAt SinkFailed words m files status (AtFolderFault Recover) lines = IsPlanAndFault SinkFailed words m files status lines
PrintsAt SinkFailed words m files status (AtFolderFault Either) lines = ⊥
-- there was no memory before the plan, or after it
PrintsAt SinkFailed words m files status (AtMemoryFault Unchanged) lines =
    IsFaultPrinted SinkFailed status lines ⊎ IsPlanAndFault SinkFailed words m files status lines
PrintsAt SinkFailed words m files status (AtMemoryFault Recover) lines = IsPlanAndFault SinkFailed words m files status lines
PrintsAt SinkFailed words m files status (AtMemoryFault Either) lines = ⊥
-- a front of the lines of the answer that the sink cut short
PrintsAt SinkFailed words m files status (AtSinkFault None) lines =
    ((answer : Status) × IsAnswer words m files answer × IsFront lines (refusal_lines answer))
    ⊎ ((profile : List ℕ) × (unit : Unit) × Installs words m files profile unit × IsFront lines (plan_lines profile unit))
PrintsAt SinkFailed words m files status (AtSinkFault (Some number)) lines = IsPlanAndFront words m files lines

abbrev pub Prints : (SinkFailed : Type 0) → List (List ℕ) → Map → Files → Status → List ℕ → Type 0
Prints SinkFailed words m files status lines = PrintsAt SinkFailed words m files status (end_of status) lines
