-- Values with their variables put in.
use Rattle.std.specs.Prelude.{ℕ, List, [], Option, Some, None, Result, Ok, codes, if◌then◌else◌}
use Rattle.std.specs.Str.{bytes_eq}
use Rattle.std.specs.String.{string_bytes}
use Rattle.instr_text.specs.declared.fault.InstrRefusal.{InstrRefusal}
use Rattle.instr_text.specs.Gives.{◌>>=◌}
use Rattle.instr_text.specs.Expanded.{expanded}
use Rattle.instr_parser.specs.declared.call.Base.{Base}
use Rattle.instr_parser.specs.declared.call.Base.TheVariants as base
use Rattle.instr_parser.specs.declared.opened.Opened.{Opened as Read}
use Rattle.instr_text.specs.Front.{behind}

-- a base, where there is one, and what stands behind it
abbrev pub Opened : Type 0
Opened = Option Base × List ℕ

abbrev pub parted_by : List ℕ → Option (List ℕ) → Opened
parted_by text (Some rest) = (Some base.Install, rest)
parted_by text None = (None, text)

-- The bases are found in the text as it is written, so that no character that is put in belongs to one.
unfoldable pub parted : List ℕ → Opened
parted text =
    if bytes_eq text (codes "@artifact") then (Some base.Artifact, [])
    else parted_by text (behind (codes "${installFolder}") text)

-- the same with what the variables stand for
unfoldable pub opened : List ℕ → Result Opened InstrRefusal
opened text = expanded (parted text).1 >>= λ rest. Ok ((parted text).0, rest)

-- what is read of a value
abbrev pub opened_seen : Read → Opened
opened_seen read = (read.base, string_bytes read.rest)
