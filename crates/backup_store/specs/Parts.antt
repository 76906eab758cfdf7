-- The parts of an entry's text, each as it is read. Only clauses of private functions cite this.
use Rattle.std.specs.Prelude.{◌≡◌, ◌≢◌, ℕ, List, ◌++◌, Option, Some, IfSome}
use Rattle.osgi_version.specs.Field.{field}
use Rattle.folder_core.specs.Path.{IsPath, path_text}
use Rattle.folder_core.specs.declared.node.Node.{Node}
use Rattle.backup_store.specs.Entry.{IsOldNode}
use Rattle.backup_store.specs.EntryText.{node_text}

-- The bytes are the field of this path.
pub record IsPathField (bytes : List ℕ) (path : List (List ℕ)) : Type 0 where
  pub is_path : IsPath path
  pub spelling : field (path_text path) ≡ bytes

abbrev pub IsNoPathField : List ℕ → Type 0
IsNoPathField bytes = (path : List (List ℕ)) → IsPath path → field (path_text path) ≢ bytes

-- The bytes are the text of this old node.
pub record IsNodeText (bytes : List ℕ) (before : Option Node) : Type 0 where
  pub old : IfSome before IsOldNode
  pub spelling : node_text before ≡ bytes

abbrev pub IsNoNodeText : List ℕ → Type 0
IsNoNodeText bytes = (before : Option Node) → IfSome before IsOldNode → node_text before ≢ bytes

-- The front and the bytes behind it are the text of this node.
pub record IsNodeBehind (front bytes : List ℕ) (node : Node) : Type 0 where
  pub old : IsOldNode node
  pub spelling : node_text (Some node) ≡ front ++ bytes

abbrev pub IsNoNodeBehind : List ℕ → List ℕ → Type 0
IsNoNodeBehind front bytes = (node : Node) → IsOldNode node → node_text (Some node) ≢ front ++ bytes
