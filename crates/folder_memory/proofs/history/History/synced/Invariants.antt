use Rattle.std.proofs.Common.{◌≡◌, take}
use Rattle.folder_memory.specs.State.{state_of}
use Rattle.folder_memory.proofs.history.History.synced.Given as goal

-- the events so far have been done again
abbrev pub invariant-loop-event : goal.invariant-loop-event
invariant-loop-event l = (state_of l.synced.events.items).now ≡ (state_of (take l.event-index (take l.count l.self.events.items))).now
