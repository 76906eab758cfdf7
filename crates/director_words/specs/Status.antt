use Rattle.std.specs.Prelude.{ℕ, List, [], ◌∷◌, ◌++◌, codes, ⊤}
use Rattle.std.specs.Fmt.{decimal}
use Rattle.osgi_version.specs.Field.{field}
use Rattle.folder_core.specs.declared.node.After.{After}
use Rattle.folder_core.specs.declared.node.After.TheVariants.{Unchanged, Recover, Either}
use Rattle.director_words.specs.declared.status.Status.{Status}
use Rattle.director_words.specs.declared.status.Status.TheVariants.{Done, NotBuilt, Usage, SourceRefused, Unknown, FolderFault, SourceFault, SinkFault, Limit, NoMemory}
use Rattle.director_words.specs.Limit.{limit_word_of}
use Rattle.director_words.specs.SourceWhy.{why_text, CanPrintWhy}

-- the exit status
abbrev pub code_of : Status → ℕ
code_of Done = 0
code_of NotBuilt = 1
code_of Usage = 2
code_of (SourceRefused folder why) = 3
code_of (Unknown name) = 4
code_of (FolderFault after) = 9
code_of SourceFault = 10
code_of (SinkFault committed) = 12
code_of (Limit what most) = 15
code_of (NoMemory after) = 17

-- what a failure left, as it is printed
abbrev pub after_word : After → List ℕ
after_word Unchanged = codes "unchanged"
after_word Recover = codes "recover"
after_word Either = codes "either"

-- the line of a status that holds nothing, or only what a failure left; no line for any other
abbrev pub short_line_of : Status → List ℕ
short_line_of Done = []
short_line_of NotBuilt = codes "not-built" ++ 10 ∷ []
short_line_of Usage = codes "usage" ++ 10 ∷ []
short_line_of (SourceRefused folder why) = []
short_line_of (Unknown name) = []
short_line_of (FolderFault after) = codes "folder-fault " ++ after_word after ++ 10 ∷ []
short_line_of SourceFault = codes "source-fault" ++ 10 ∷ []
short_line_of (SinkFault committed) = []
short_line_of (Limit what most) = []
short_line_of (NoMemory after) = codes "no-memory " ++ after_word after ++ 10 ∷ []

-- the lines of any other refusal
abbrev pub lines_of : Status → List ℕ
lines_of Done = []
lines_of NotBuilt = []
lines_of Usage = []
lines_of (SourceRefused folder why) = codes "source-refused " ++ (field folder ++ 32 ∷ (why_text why ++ 10 ∷ []))
lines_of (Unknown name) = codes "unknown " ++ field name ++ 10 ∷ []
lines_of (FolderFault after) = []
lines_of SourceFault = []
lines_of (SinkFault committed) = []
lines_of (Limit what most) = codes "limit " ++ (limit_word_of what ++ 32 ∷ (decimal most ++ 10 ∷ []))
lines_of (NoMemory after) = []

-- What a status holds can be printed with it.
abbrev pub CanPrint : Status → Type 0
CanPrint (SourceRefused folder why) = CanPrintWhy why
CanPrint Done = ⊤
CanPrint NotBuilt = ⊤
CanPrint Usage = ⊤
CanPrint (Unknown name) = ⊤
CanPrint (FolderFault after) = ⊤
CanPrint SourceFault = ⊤
CanPrint (SinkFault committed) = ⊤
CanPrint (Limit what most) = ⊤
CanPrint (NoMemory after) = ⊤
