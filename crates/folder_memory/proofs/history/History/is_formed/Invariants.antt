use Rattle.folder_memory.specs.State.{state_of}
use Rattle.folder_memory.proofs.Images.{AreWell}
use Rattle.folder_memory.proofs.history.History.is_formed.Given as goal

-- what stands at each path so far stands well
abbrev pub invariant-loop-path : goal.invariant-loop-path
invariant-loop-path l = AreWell (state_of l.self.events.items).now l.yielded
