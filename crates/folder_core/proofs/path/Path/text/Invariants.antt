use Rattle.std.proofs.Common.{◌≡◌, take}
use Rattle.std.specs.String.{string_bytes}
use Rattle.folder_core.specs.Path.{path_text}
use Rattle.folder_core.proofs.path.Path.text.Given as goal

-- the text of the names so far
abbrev pub invariant-loop-place : goal.invariant-loop-place
invariant-loop-place l = string_bytes l.text ≡ path_text (take l.place l.name-items)
