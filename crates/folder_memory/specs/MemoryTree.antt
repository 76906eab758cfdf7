-- A tree in memory, as its clauses see it.
use Rattle.folder_core.specs.Tree.{Files}
use Rattle.folder_memory.specs.Files.{files_of}
use Rattle.folder_memory.specs.declared.schedule.Schedule.{Schedule}
use Rattle.folder_memory.specs.declared.tree.MemoryTree.{MemoryTree}

-- the files that the tree tells
abbrev pub told_by : MemoryTree → Files
told_by t = files_of t.files

-- which of its calls fail
abbrev pub schedule_of : MemoryTree → Schedule
schedule_of t = t.schedule
