use Rattle.std.specs.Prelude.{⊤}
use Rattle.folder_core.specs.declared.node.After.TheVariants.{Unchanged, Recover, Either}
use Rattle.director_words.specs.declared.status.Status.{Status}
use Rattle.director_words.specs.declared.status.Status.TheVariants.{Done, NotBuilt, Usage, SourceRefused, Unknown, FolderFault, SourceFault, SinkFault, Limit, NoMemory}

-- Why reading the source gave up: it is refused, or a limit is passed, or the source failed, or memory ran out.
abbrev pub StopsReading : (Status → Type 0) → Type 0 → Status → Type 0
StopsReading Gives SourceFailed (SourceRefused folder why) = Gives (SourceRefused folder why)
StopsReading Gives SourceFailed (Limit what most) = Gives (Limit what most)
StopsReading Gives SourceFailed SourceFault = SourceFailed
StopsReading Gives SourceFailed (NoMemory Unchanged) = ⊤
StopsReading Gives SourceFailed (NoMemory Recover) = ⊥
StopsReading Gives SourceFailed (NoMemory Either) = ⊥
StopsReading Gives SourceFailed Done = ⊥
StopsReading Gives SourceFailed NotBuilt = ⊥
StopsReading Gives SourceFailed Usage = ⊥
StopsReading Gives SourceFailed (Unknown word) = ⊥
StopsReading Gives SourceFailed (FolderFault after) = ⊥
StopsReading Gives SourceFailed (SinkFault committed) = ⊥
