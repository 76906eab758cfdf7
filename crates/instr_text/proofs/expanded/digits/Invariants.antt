use Rattle.std.proofs.Common.{◌≡◌, ◌≤◌, drop}
use Rattle.instr_text.specs.Expanded.{digits_from}
use Rattle.instr_text.proofs.expanded.digits.Given as goal

-- the digits so far make the number, which isn't too great
abbrev pub invariant-loop-byte : goal.invariant-loop-byte
invariant-loop-byte l = (digits_from 1114111 l.number (drop l.byte-index l.text) ≡ digits_from 1114111 0 l.text) × (l.number ≤ 1114111)
