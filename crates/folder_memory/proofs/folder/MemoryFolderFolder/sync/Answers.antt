use Rattle.folder_core.specs.Formed.{IsFormed-had}
use Rattle.folder_memory.specs.State.{state_of}
use Rattle.folder_memory.proofs.Standing.{narrows_sync, elapses_sync}
use Rattle.folder_memory.proofs.folder.MemoryFolderFolder.sync.Goals as goal

pub returns-clause-crash : goal.returns-clause-crash
returns-clause-crash c =
    let events = c.args.self.now.history.events.items in
    narrows_sync events (state_of c.sync.new.self.events.items) (IsFormed-had (state_of events).now c.args.self.now.formed) c.sync.ensures.synced c.sync.ensures.settled

pub returns-clause-time : goal.returns-clause-time
returns-clause-time c = elapses_sync c.args.self.now.history.events.items c.sync.new.self.events.items c.sync.ensures.mark
