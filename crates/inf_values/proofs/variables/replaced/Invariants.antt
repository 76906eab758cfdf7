use Rattle.std.proofs.Common.{◌≡◌, length, string_bytes, option_map}
use Rattle.std.specs.Str.{IsUtf8}
use Rattle.inf_values.specs.Replaced.{with_front, replaced}
use Rattle.inf_values.proofs.variables.replaced.Given as goal

-- what is found so far, and what the rest stands for
abbrev pub invariant-loop-before : goal.invariant-loop-before
invariant-loop-before l =
    (with_front (string_bytes l.found) (replaced (option_map (λ h. h.now) l.host) l.rest) ≡ replaced (option_map (λ h. h.now) l.host) l.fn.text)
    × IsUtf8 l.rest

abbrev pub decreases-loop-before : goal.decreases-loop-before
decreases-loop-before l = length l.rest
