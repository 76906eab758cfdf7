use Rattle.std.proofs.Common.{◌≡◌, ℕ, ◌<◌, slice_index_or}
use Rattle.unit_catalog.specs.At.{HasAt}
use Rattle.unit_catalog.proofs.looking.named.Given as goal

-- no unit so far has the name
abbrev pub invariant-loop-number : goal.invariant-loop-number
invariant-loop-number l = (k d : ℕ) → k < l.number-index → HasAt l.units (λ u. u.name ≡ l.name) (slice_index_or l.numbers k d) → ⊥
