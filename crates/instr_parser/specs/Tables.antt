-- The names of actions and parameters, each with its code.
use Rattle.std.specs.Prelude.{List, [], ◌∷◌, codes}
use Rattle.case_table.specs.Rows.{Row}

abbrev pub actions : List Row
actions =
    (codes "mkdir", 0)
    ∷ (codes "rmdir", 1)
    ∷ (codes "remove", 2)
    ∷ (codes "copy", 3)
    ∷ (codes "cleanupcopy", 4)
    ∷ (codes "chmod", 5)
    ∷ (codes "ln", 6)
    ∷ []

-- actions that the format has and that aren't taken
abbrev pub left_out : List Row
left_out =
    (codes "unzip", 0)
    ∷ (codes "cleanupzip", 1)
    ∷ (codes "checkAndPromptNativePackage", 2)
    ∷ []

abbrev pub params : List Row
params =
    (codes "path", 0)
    ∷ (codes "source", 1)
    ∷ (codes "target", 2)
    ∷ (codes "overwrite", 3)
    ∷ (codes "targetDir", 4)
    ∷ (codes "targetFile", 5)
    ∷ (codes "permissions", 6)
    ∷ (codes "linkTarget", 7)
    ∷ (codes "linkName", 8)
    ∷ []
