use Rattle.std.proofs.Common.{◌≡◌, ◌++◌, map, take}
use Rattle.unit_lines.specs.declared.part.Part.TheVariants as part
use Rattle.unit_text.specs.UnitText.{text_of}
use Rattle.unit_text.proofs.writing.push_phases.Given as goal

-- what is written so far
abbrev pub invariant-loop-phase : goal.invariant-loop-phase
invariant-loop-phase l = l.text.items ≡ l.fn.text.items ++ text_of (map part.Phase (take l.phase-index l.phases))
