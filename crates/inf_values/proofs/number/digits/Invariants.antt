use Rattle.std.proofs.Common.{◌≡◌, ◌≤◌, drop}
use Rattle.inf_values.specs.Number.{digits_from}
use Rattle.inf_values.proofs.number.digits.Given as goal

-- the digits so far make the number, which isn't too great
abbrev pub invariant-loop-byte : goal.invariant-loop-byte
invariant-loop-byte l = (digits_from l.most l.number (drop l.byte-index l.text) ≡ digits_from l.most 0 l.text) × (l.number ≤ l.most)
