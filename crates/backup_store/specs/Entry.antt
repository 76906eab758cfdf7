-- What an entry holds, and which bytes are one.
use Rattle.std.specs.Prelude.{◌≡◌, ◌≢◌, ℕ, ◌≤◌, List, length, Option, IfSome, ⊤}
use Rattle.std.specs.Str.{IsUtf8}
use Rattle.folder_core.specs.Path.{IsPath}
use Rattle.folder_core.specs.declared.node.Node.{Node}
use Rattle.folder_core.specs.declared.node.Node.TheVariants.{File, Dir, Link}
use Rattle.backup_store.specs.EntryText.{entry_text}

-- A file has at most 64 MiB.
abbrev pub IsSmall : Node → Type 0
IsSmall (File mode blob) = length blob ≤ 67108864
IsSmall Dir = ⊤
IsSmall (Link target) = ⊤

-- A mode is at most 0o777, a file has at most 64 MiB, and a target is UTF-8 of at most 4096 bytes.
abbrev pub IsOldNode : Node → Type 0
IsOldNode (File mode blob) = (mode ≤ 511) × (length blob ≤ 67108864)
IsOldNode Dir = ⊤
IsOldNode (Link target) = (length target ≤ 4096) × IsUtf8 target

pub record IsEntry (path : List (List ℕ)) (before : Option Node) : Type 0 where
  pub is_path : IsPath path
  pub old : IfSome before IsOldNode

-- The bytes are the text of this entry, and of no other.
pub record IsEntryOf (bytes : List ℕ) (path : List (List ℕ)) (before : Option Node) : Type 0 where
  pub entry : IsEntry path before
  pub spelling : entry_text path before ≡ bytes
  pub only_path : (other : List (List ℕ)) (node : Option Node) → IsEntry other node → entry_text other node ≡ bytes → other ≡ path
  pub only_node : (other : List (List ℕ)) (node : Option Node) → IsEntry other node → entry_text other node ≡ bytes → node ≡ before

-- The bytes are the text of no entry.
abbrev pub IsNoEntry : List ℕ → Type 0
IsNoEntry bytes = (path : List (List ℕ)) (before : Option Node) → IsEntry path before → entry_text path before ≢ bytes
