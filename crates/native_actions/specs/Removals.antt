-- The steps of `remove`.
use Rattle.std.specs.Prelude.{List, map, reverse, None}
use Rattle.folder_core.specs.declared.node.Touch.{Touch}
use Rattle.action_core.specs.declared.step.Step.{Step}
use Rattle.action_core.specs.declared.step.Step.TheVariants.{Set}

-- Each of these goes, the last of them first.
abbrev pub removals : List Touch → List Step
removals touches = map (λ touch. Set touch.path None) (reverse touches)
