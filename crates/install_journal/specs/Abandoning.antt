use Rattle.folder_core.specs.Folder.{Map, Told}
use Rattle.install_journal.specs.Restored.{IsRestored, IsSettled}

-- What the map before restores to stands now, and is what each image restores to.
abbrev pub SettlesRestored : Told → Told → Type 0
SettlesRestored s t = (restored : Map) → IsRestored s.now restored → IsSettled restored t
