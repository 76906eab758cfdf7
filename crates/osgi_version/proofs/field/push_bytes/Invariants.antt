use Rattle.std.proofs.Common.{◌≡◌, ◌++◌, take}
use Rattle.std.specs.List.{flat_map}
use Rattle.osgi_version.specs.Field.{field_byte}
use Rattle.osgi_version.proofs.field.push_bytes.Given as goal

-- the line has the bytes so far
abbrev pub invariant-loop-byte : goal.invariant-loop-byte
invariant-loop-byte l = l.line.items ≡ l.fn.line.items ++ flat_map field_byte (take l.byte-index l.text)
