-- An input and a sink in memory, as their clauses see them.
use Rattle.std.specs.Prelude.{◌⊎◌, ℕ, ◌<◌, ◌≤◌, List, length}
use Rattle.folder_memory.specs.Schedule.{FailsNext}
use Rattle.folder_memory.specs.declared.schedule.Schedule.{Schedule}
use Rattle.folder_memory.specs.declared.stream.MemoryInput.{MemoryInput}
use Rattle.folder_memory.specs.declared.stream.MemorySink.{MemorySink}

-- which calls of the input fail
abbrev pub input_schedule : MemoryInput → Schedule
input_schedule i = i.schedule

-- how many bytes the sink takes at most
abbrev pub room_of : MemorySink → ℕ
room_of s = s.room

-- the bytes written so far
abbrev pub written_to : MemorySink → List ℕ
written_to s = s.bytes.items

-- which calls of the sink fail
abbrev pub sink_schedule : MemorySink → Schedule
sink_schedule s = s.schedule

-- The piece isn't empty, and no byte of it fits.
abbrev pub IsFullFor : MemorySink → List ℕ → Type 0
IsFullFor s piece = (0 < length piece) × (room_of s ≤ length (written_to s))

-- A write of the piece fails.
abbrev pub FailsWrite : MemorySink → List ℕ → Type 0
FailsWrite s piece = IsFullFor s piece ⊎ FailsNext (sink_schedule s)
