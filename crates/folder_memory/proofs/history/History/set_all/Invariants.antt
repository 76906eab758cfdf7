use Rattle.std.proofs.Common.{◌≡◌, take}
use Rattle.folder_memory.specs.Image.{set_all}
use Rattle.folder_memory.specs.State.{state_of}
use Rattle.folder_memory.proofs.history.History.set_all.Given as goal

-- so many are set
abbrev pub invariant-loop-touch : goal.invariant-loop-touch
invariant-loop-touch l = (state_of l.self.events.items).now ≡ set_all (state_of l.fn.self.events.items).now (take l.touch-index l.choice)
