use Rattle.std.proofs.Common.{◌≡◌, Bool, true, false, rules}
use Rattle.std.specs.Bool.{IsTrue}

pub not_true : (b : Bool) → b ≡ false → ¬ (IsTrue b)
not_true b is holds = search rules

pub is_true : (b : Bool) → b ≡ true → IsTrue b
is_true b is = search rules
