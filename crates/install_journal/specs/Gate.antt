use Rattle.folder_core.specs.Folder.{Map}
use Rattle.backup_store.specs.Held.{IsOpen as OpensGate}
use Rattle.install_journal.specs.declared.gate.Gate.{Gate}
use Rattle.install_journal.specs.declared.gate.Gate.TheVariants.{IsOpen, IsClosed}

-- The gate of the map reads so.
abbrev pub Reads : Map → Gate → Type 0
Reads m IsOpen = OpensGate m
Reads m IsClosed = ¬ (OpensGate m)
