use Rattle.std.proofs.Common.{◌≡◌, ◌≤◌, take}
use Rattle.folder_memory.specs.State.{state_of}
use Rattle.folder_memory.proofs.history.History.synced_events.Given as goal

-- what stood after so many events is what is synced now
abbrev pub invariant-loop-place : goal.invariant-loop-place
invariant-loop-place l = record {
  within : l.count ≤ l.place;
  synced : (state_of (take l.count l.self.events.items)).now ≡ (state_of (take l.place l.self.events.items)).synced;
}
