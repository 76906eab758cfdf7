-- What occurrences add up to, constraint by constraint, and room for more of them.
use Rattle.std.specs.Prelude.{ℕ, ◌==◌, ◌≤◌, ◌<◌, List, length, All, sum_by, slice_index_or, vec_len, vec_capacity, if◌then◌else◌, Vec}
use Rattle.std.specs.declared.alloc.Global.{Global}
use Rattle.pb_core.specs.KeptView.{place_of}
use Rattle.pb_core.specs.declared.literal.Term.{Term}
use Rattle.pb_core.specs.declared.occurrences.Occurrence.{Occurrence}

-- the coefficients of one constraint
abbrev pub share_at : ℕ → List Occurrence → ℕ
share_at number occurrences = sum_by (λ o. if o.number == number then o.coef else 0) occurrences

-- the constraints are numbered from 1 to a number
abbrev pub AreNumbered : ℕ → List Occurrence → Type 0
AreNumbered count occurrences = All (λ o. (0 < o.number) × (o.number ≤ count)) occurrences

-- the list at the place can take one more
abbrev pub HasRoom : List (Vec Occurrence Global) → ℕ → Type 0
HasRoom lists place = (d : Vec Occurrence Global) → vec_len (slice_index_or lists place d) < vec_capacity (slice_index_or lists place d)

-- so can those of the terms from a place on
abbrev pub HaveRoom : List (Vec Occurrence Global) → List Term → ℕ → Type 0
HaveRoom lists terms first = (k : ℕ) (d : Term) → first ≤ k → k < length terms → HasRoom lists (place_of (slice_index_or terms k d).lit)
