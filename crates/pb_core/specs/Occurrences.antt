-- Which constraints hold a literal.
use Rattle.std.specs.Prelude.{ℕ, ◌+◌, nat_lt, Bool, List, [], ◌∷◌, ◌++◌, sum_by, if◌then◌else◌}
use Rattle.pb_core.specs.AtLeast.{AtLeast}
use Rattle.pb_core.specs.Literal.{same_literal}
use Rattle.pb_core.specs.declared.literal.Lit.{Lit}
use Rattle.pb_core.specs.declared.literal.Term.{Term}
use Rattle.pb_core.specs.declared.occurrences.Occurrence.{Occurrence}

-- the coefficient of the literal, or 0 where no term has it
abbrev pub coefficient : Lit → List Term → ℕ
coefficient lit terms = sum_by (λ t. if same_literal t.lit lit then t.coef else 0) terms

-- a term of the constraint has the literal
abbrev pub holds_literal : Lit → AtLeast → Bool
holds_literal lit c = nat_lt 0 (coefficient lit c.terms)

-- the constraint with this number, where it holds the literal
abbrev pub own_occurrence : ℕ → Lit → List Term → List Occurrence
own_occurrence number lit terms =
    if nat_lt 0 (coefficient lit terms) then record { number = number; coef = coefficient lit terms } ∷ [] else []

-- the constraints that hold the literal, where they are numbered from `number` on
abbrev pub occurrences_from : ℕ → Lit → List AtLeast → List Occurrence
occurrences_from number lit [] = []
occurrences_from number lit (c ∷ constraints) =
    own_occurrence number lit c.terms ++ occurrences_from (number + 1) lit constraints
