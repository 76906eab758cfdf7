-- A folder in memory, as its clauses see it.
use Rattle.folder_core.specs.Folder.{Told}
use Rattle.folder_memory.specs.State.{state_of}
use Rattle.folder_memory.specs.declared.folder.MemoryFolder.{MemoryFolder}
use Rattle.folder_memory.specs.declared.schedule.Schedule.{Schedule}

-- what the folder tells
abbrev pub told_by : MemoryFolder → Told
told_by f = state_of f.history.events.items

-- which of its calls fail, how many there were, and how many failed
abbrev pub schedule_of : MemoryFolder → Schedule
schedule_of f = f.schedule
