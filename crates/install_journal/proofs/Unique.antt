-- A file is the text of one entry.
use Rattle.std.proofs.Common.{◌≡◌, ℕ, List, Option}
use Rattle.folder_core.specs.Folder.{Map}
use Rattle.folder_core.specs.declared.node.Node.{Node}
use Rattle.backup_store.specs.Held.{HoldsEntry}
use Rattle.backup_store.proofs.Unique as store

pub holds_one_path : (m : Map) (k : ℕ) (path other : List (List ℕ)) (before after : Option Node) → HoldsEntry m k path before → HoldsEntry m k other after → path ≡ other
holds_one_path m k path other before after first second = store.holds_one_path m k path other before after first second

pub holds_one_node : (m : Map) (k : ℕ) (path other : List (List ℕ)) (before after : Option Node) → HoldsEntry m k path before → HoldsEntry m k other after → before ≡ after
holds_one_node m k path other before after first second = store.holds_one_node m k path other before after first second
