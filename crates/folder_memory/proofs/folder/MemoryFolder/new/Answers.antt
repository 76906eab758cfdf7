use Rattle.std.proofs.Common.{sym, subst}
use Rattle.std.proofs.lemmas.Grind.{merely}
use Rattle.folder_core.specs.Folder.{IsFormed}
use Rattle.folder_memory.specs.State.{state_of}
use Rattle.folder_memory.proofs.Standing.{formed_first}
use Rattle.folder_memory.proofs.folder.MemoryFolder.new.Goals as goal

pub invariant_of-result : goal.invariant_of-result
invariant_of-result c = record { formed = merely (subst (λ es. IsFormed (state_of es).now) (sym c.new.ensures) formed_first) }
