-- The text of an entry: a path, and what stood there.
use Rattle.std.specs.Prelude.{ℕ, ◌+◌, ◌/◌, ◌%◌, List, [], ◌∷◌, ◌++◌, length, codes, Option, Some, None}
use Rattle.std.specs.Fmt.{decimal}
use Rattle.osgi_version.specs.Field.{field}
use Rattle.folder_core.specs.Path.{path_text}
use Rattle.folder_core.specs.declared.node.Node.{Node}
use Rattle.folder_core.specs.declared.node.Node.TheVariants.{File, Dir, Link}

-- a mode in three octal digits
abbrev pub mode_digits : ℕ → List ℕ
mode_digits mode = (48 + mode / 8 / 8) ∷ (48 + mode / 8 % 8) ∷ (48 + mode % 8) ∷ []

-- The line of an old node. Behind that of a file come its bytes.
unfoldable pub node_text : Option Node → List ℕ
node_text None = codes "none" ++ 10 ∷ []
node_text (Some (File mode blob)) = codes "file " ++ (mode_digits mode ++ 32 ∷ (decimal (length blob) ++ 10 ∷ blob))
node_text (Some Dir) = codes "dir" ++ 10 ∷ []
node_text (Some (Link target)) = codes "link " ++ (field target ++ 10 ∷ [])

-- two lines with the path, as one field, and then the old node
unfoldable pub entry_text : List (List ℕ) → Option Node → List ℕ
entry_text path before =
    codes "p2entry 1" ++ 10 ∷ (codes "path " ++ (field (path_text path) ++ 10 ∷ node_text before))
