use Rattle.std.proofs.Common.{◌≡◌, ◌++◌, map, take}
use Rattle.unit_lines.specs.declared.part.Part.TheVariants as part
use Rattle.unit_text.specs.UnitText.{text_of}
use Rattle.unit_text.proofs.writing.push_all_required.Given as goal

-- what is written so far
abbrev pub invariant-loop-required : goal.invariant-loop-required
invariant-loop-required l = l.text.items ≡ l.fn.text.items ++ text_of (map part.Required (take l.required-index l.all))
