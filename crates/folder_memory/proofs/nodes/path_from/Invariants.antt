use Rattle.std.proofs.Common.{◌≡◌, take}
use Rattle.folder_memory.proofs.nodes.path_from.Given as goal

-- the path has so many of the names
abbrev pub invariant-loop-name : goal.invariant-loop-name
invariant-loop-name l = l.path ≡ take l.name-index l.names
