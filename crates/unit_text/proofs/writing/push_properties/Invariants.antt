use Rattle.std.proofs.Common.{◌≡◌, ◌++◌, map, take}
use Rattle.unit_lines.specs.declared.part.Part.TheVariants as part
use Rattle.unit_text.specs.UnitText.{text_of}
use Rattle.unit_text.proofs.writing.push_properties.Given as goal

-- what is written so far
abbrev pub invariant-loop-property : goal.invariant-loop-property
invariant-loop-property l = l.text.items ≡ l.fn.text.items ++ text_of (map part.Property (take l.property-index l.properties))
