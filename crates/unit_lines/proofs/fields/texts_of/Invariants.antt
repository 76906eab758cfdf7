use Rattle.std.proofs.Common.{◌≡◌, All, map, take}
use Rattle.std.specs.Str.{IsUtf8}
use Rattle.osgi_version.specs.Field.{field}
use Rattle.unit_lines.specs.Line.{seen}
use Rattle.unit_lines.proofs.fields.texts_of.Given as goal

-- the texts of the fields so far
abbrev pub invariant-loop-field : goal.invariant-loop-field
invariant-loop-field l = All IsUtf8 l.texts × (map field l.texts ≡ seen (take l.field-index l.fields))
