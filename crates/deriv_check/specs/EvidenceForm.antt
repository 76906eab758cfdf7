-- Which evidence has a text, and which texts are read.
use Rattle.std.specs.Prelude.{◌≡◌, ℕ, ◌+◌, ◌-◌, ◌<◌, ◌≤◌, ◌^◌, ◌==◌, ⊤, List, [], ◌∷◌, ◌++◌, length, take, codes, All, slice_index_or}
use Rattle.std.specs.List.{slice_split}
use Rattle.std.specs.Str.{IsUtf8}
use Rattle.pb_core.specs.AtLeast.{at_least}
use Rattle.pb_core.specs.Normal.{IsNormalOver}
use Rattle.pb_core.specs.declared.constraint.Constraint.{Constraint}
use Rattle.pb_core.specs.declared.constraint.Origin.{Origin}
use Rattle.pb_core.specs.declared.constraint.Origin.TheVariants as origin
use Rattle.pb_core.specs.declared.literal.Lit.{Lit}
use Rattle.pb_core.specs.declared.literal.Term.{Term}
use Rattle.pb_core.specs.declared.constraint.Problem.{Problem}
use Rattle.deriv_check.specs.declared.derivation.Derivation.{Derivation}
use Rattle.deriv_check.specs.declared.derivation.Evidence.{Evidence}
use Rattle.deriv_check.specs.declared.derivation.Line.{Line}
use Rattle.deriv_check.specs.EvidenceText.{evidence_lines}

-- the label of a variable, from 1
abbrev pub label_at : List (List ℕ) → ℕ → List ℕ
label_at labels variable = slice_index_or labels (variable - 1) []

-- A root's constraint has no term, or the one term of the variable with this label.
abbrev pub IsRootOf : List (List ℕ) → List ℕ → List Term → Type 0
IsRootOf labels label [] = ⊤
IsRootOf labels label (t ∷ []) = label ≡ label_at labels t.lit.variable
IsRootOf labels label (t ∷ u ∷ terms) = ⊥

-- the same of any constraint, where other origins are free
abbrev pub IsNamed : List (List ℕ) → List Term → Origin → Type 0
IsNamed labels terms (origin.Root label) = IsRootOf labels label terms
IsNamed labels terms (origin.Need variable row) = ⊤
IsNamed labels terms (origin.Most variable row) = ⊤
IsNamed labels terms (origin.One id) = ⊤

-- numbers below 2^32, and texts
abbrev pub IsOrigin : Origin → Type 0
IsOrigin (origin.Root label) = IsUtf8 label
IsOrigin (origin.Need variable row) = (variable < 2 ^ 32) × (row < 2 ^ 32)
IsOrigin (origin.Most variable row) = (variable < 2 ^ 32) × (row < 2 ^ 32)
IsOrigin (origin.One id) = IsUtf8 id

abbrev pub IsOriginOver : List (List ℕ) → List Term → Origin → Type 0
IsOriginOver labels terms o = IsNamed labels terms o × IsOrigin o

-- The constraint has a line in an evidence over these labels.
pub record IsConstraintOver (labels : List (List ℕ)) (c : Constraint) : Type 0 where
  pub normal : IsNormalOver (length labels) (at_least c)
  pub origin : IsOriginOver labels c.terms c.origin

abbrev pub IsLiteral : Lit → Type 0
IsLiteral lit = lit.variable < 2 ^ 32

abbrev pub IsHint : ℕ → Type 0
IsHint hint = hint < 2 ^ 32

pub record IsLine (line : Line) : Type 0 where
  pub clause : All IsLiteral line.clause
  pub hints : All IsHint line.hints

-- the most labels, constraints or lines
abbrev pub IsCount : ℕ → Type 0
IsCount n = n ≤ 1000000000

pub record IsProblem (p : Problem) : Type 0 where
  pub few_labels : IsCount (length p.labels)
  pub few_constraints : IsCount (length p.constraints)
  pub labels : All IsUtf8 p.labels
  pub constraints : All (IsConstraintOver p.labels) p.constraints

pub record IsDerivation (d : Derivation) : Type 0 where
  pub few_lines : IsCount (length d.lines)
  pub lines : All IsLine d.lines

-- The evidence has a text.
pub record IsEvidence (e : Evidence) : Type 0 where
  pub problem : IsProblem e.problem
  pub derivation : IsDerivation e.derivation

-- the lines of a text that end with LF, without it
abbrev pub whole_lines : List ℕ → List (List ℕ)
whole_lines text = take (length (slice_split (λ b. b == 10) text) - 1) (slice_split (λ b. b == 10) text)

-- the line begins with the word `problem` and a blank
abbrev pub BeginsProblem : List ℕ → Type 0
BeginsProblem line = (rest : List ℕ) × (line ≡ codes "problem " ++ rest)

-- what may stand before an evidence: nothing, or one line that doesn't begin a problem
abbrev pub IsSkipped : List (List ℕ) → Type 0
IsSkipped [] = ⊤
IsSkipped (line ∷ []) = ¬ (BeginsProblem line)
IsSkipped (line ∷ other ∷ lines) = ⊥

-- The lines spell an evidence. A first line that doesn't begin a problem is skipped, and what follows is passed over.
pub record DenotesEvidence (lines : List (List ℕ)) (e : Evidence) : Type 0 where
  pub skipped : List (List ℕ)
  pub behind : List (List ℕ)
  pub spelling : lines ≡ skipped ++ (evidence_lines e ++ behind)
  pub skips : IsSkipped skipped
  pub form : IsEvidence e

-- some lines that begin with these spell an evidence
pub record BeginsEvidence (lines : List (List ℕ)) : Type 0 where
  pub more : List (List ℕ)
  pub evidence : Evidence
  pub denotes : DenotesEvidence (lines ++ more) evidence

-- The first line, from 1, such that no lines that begin with those up to it spell an evidence. Where more lines are
-- missing, it is the one behind the last.
pub record IsFirstBadLine (lines : List (List ℕ)) (line : ℕ) : Type 0 where
  pub from_one : 0 < line
  pub within : line ≤ length lines + 1
  pub before : BeginsEvidence (take (line - 1) lines)
  pub fails : line ≤ length lines → ¬ (BeginsEvidence (take line lines))
  pub refused : (e : Evidence) → ¬ (DenotesEvidence lines e)
