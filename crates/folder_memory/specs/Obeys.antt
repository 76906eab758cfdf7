-- A call fails exactly where it is told to, but for want of memory.
use Rattle.std.specs.Prelude.{Result, Ok, Err, ⊤}
use Rattle.folder_core.specs.declared.fault.FolderError.{FolderError}
use Rattle.folder_core.specs.declared.fault.FolderError.TheVariants.{Failed, NoMemory}

abbrev pub Obeys : {T : Type 0} → Type 0 → Result T FolderError → Type 0
Obeys Fails (Ok value) = ¬ Fails
Obeys Fails (Err Failed) = Fails
Obeys Fails (Err NoMemory) = ⊤
