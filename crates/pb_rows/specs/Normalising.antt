-- The constraints of rows.
use Rattle.std.specs.Prelude.{◌≡◌, ◌⊎◌, ◌<◌, ℕ, Bool, List, [], ◌∷◌, ◌++◌, length, sum_by}
use Rattle.pb_core.specs.AtLeast.{at_least}
use Rattle.pb_core.specs.Normal.{IsNormal, AreAmong}
use Rattle.pb_core.specs.Normalised.{IsNormalised, IsSatisfiedSigned, AreSignedAmong}
use Rattle.pb_core.specs.declared.constraint.Constraint.{Constraint}
use Rattle.pb_rows.specs.Rows.{Row}

-- The full assignment satisfies the row.
abbrev pub Satisfies : (ℕ → Bool) → Row → Type 0
Satisfies full row = IsSatisfiedSigned full row.terms row.degree

-- The constraint is the row's normal form, over the row's variables and with its origin.
pub record IsNormalOf (row : Row) (c : Constraint) : Type 0 where
  pub normalised : IsNormalised row.terms row.degree (at_least c)
  pub normal : IsNormal (at_least c)
  pub among : (variables : ℕ) → AreSignedAmong variables row.terms → AreAmong variables c.terms
  pub origin : c.origin ≡ row.origin

-- Row by row, the constraint is the normal form, and a row that every assignment satisfies has none.
abbrev pub AreNormalised : List Row → List Constraint → Type 0
AreNormalised [] constraints = constraints ≡ []
AreNormalised (row ∷ rows) constraints =
    (((full : ℕ → Bool) → Satisfies full row) × AreNormalised rows constraints)
    ⊎ ((c : Constraint) × (rest : List Constraint) × (constraints ≡ c ∷ rest) × IsNormalOf row c × AreNormalised rows rest)

abbrev pub term_count : List Constraint → ℕ
term_count constraints = sum_by (λ c. length c.terms) constraints

-- The constraints of the first rows have more terms than this.
pub record HasMoreTerms (most : ℕ) (rows : List Row) : Type 0 where
  pub first : List Row
  pub later : List Row
  pub split : rows ≡ first ++ later
  pub constraints : List Constraint
  pub normalised : AreNormalised first constraints
  pub many : most < term_count constraints

-- Behind the constraints of any rows stand now those of these rows.
abbrev pub Adds : List Row → List Constraint → List Constraint → Type 0
Adds rows old new = (before : List Row) → AreNormalised before old → AreNormalised (before ++ rows) new

-- Behind the constraints of any rows those of these rows, or of the first of them, have over 4,000,000 terms.
abbrev pub AreTooMany : List Row → List Constraint → Type 0
AreTooMany rows old = (before : List Row) → AreNormalised before old → HasMoreTerms 4000000 (before ++ rows)
