-- How a command ends. What it leaves, what it prints and why it ended so go by these few ends, and a status that comes
-- later is one line of the table.
use Rattle.std.specs.Prelude.{ℕ, Option}
use Rattle.folder_core.specs.declared.node.After.{After}
use Rattle.director_words.specs.declared.status.Status.{Status}
use Rattle.director_words.specs.declared.status.Status.TheVariants.{Done, NotBuilt, Usage, SourceRefused, Unknown, FolderFault, SourceFault, SinkFault, Limit, NoMemory}

-- why a command is refused
pub data Reason : Type 0 where
  -- the words denote no request
  NoRequest : Reason
  -- what the status says of the words, the folder and the source
  OwnCause : Reason
  -- the source failed
  FailedSource : Reason

-- whether the lines of a refusal are there as they stand, or are made up in memory
pub data Wording : Type 0 where
  Fixed : Wording
  MadeUp : Wording

pub data End : Type 0 where
  -- a state is committed, and the last line says so
  AtCommit : End
  -- nothing is changed
  AtRefusal : (reason : Reason) (wording : Wording) → End
  -- the folder failed, and what that left
  AtFolderFault : (left : After) → End
  -- memory ran out, and what that left
  AtMemoryFault : (left : After) → End
  -- the output failed, and the number of the state that was committed before
  AtSinkFault : (committed : Option ℕ) → End

-- the table
abbrev pub end_of : Status → End
end_of Done = AtCommit
end_of NotBuilt = AtRefusal OwnCause Fixed
end_of Usage = AtRefusal NoRequest Fixed
end_of (SourceRefused folder why) = AtRefusal OwnCause MadeUp
end_of (Unknown word) = AtRefusal OwnCause MadeUp
end_of (Limit what most) = AtRefusal OwnCause MadeUp
end_of SourceFault = AtRefusal FailedSource Fixed
end_of (FolderFault left) = AtFolderFault left
end_of (NoMemory left) = AtMemoryFault left
end_of (SinkFault committed) = AtSinkFault committed
