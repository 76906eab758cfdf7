-- What is printed where there is no plan: the evidence, and the constraints that it uses.
use Rattle.std.specs.Prelude.{◌≡◌, ◌↔◌, ℕ, ◌-◌, ◌<◌, ◌≤◌, ⊤, List, [], ◌∷◌, ◌++◌, length, map, codes, All, Contains, slice_index_or}
use Rattle.std.specs.List.{flat_map}
use Rattle.std.specs.List.Sorted.{IsStrictlyIncreasing}
use Rattle.std.specs.Fmt.{decimal}
use Rattle.osgi_version.specs.Field.{field}
use Rattle.pb_core.specs.AtLeast.{at_least}
use Rattle.pb_core.specs.Normal.{IsNormalOver}
use Rattle.pb_core.specs.Satisfied.{IsUnsatisfiable}
use Rattle.pb_core.specs.declared.constraint.Constraint.{Constraint}
use Rattle.pb_core.specs.declared.constraint.Origin.{Origin}
use Rattle.pb_core.specs.declared.constraint.Origin.TheVariants as origin
use Rattle.pb_core.specs.declared.constraint.Problem.{Problem}
use Rattle.deriv_check.specs.EvidenceForm.{IsCount, IsNamed, label_at}
use Rattle.deriv_check.specs.EvidenceText.{evidence_text}
use Rattle.deriv_check.specs.LineRule.{hinted}
use Rattle.deriv_check.specs.Used.{IsUsed}
use Rattle.deriv_check.specs.Verdict.{CheckUpTo, EndsEmpty}
use Rattle.deriv_check.specs.declared.derivation.Evidence.{Evidence}

-- The variable that the origin names is one of the problem's.
abbrev pub IsLabelled : ℕ → Origin → Type 0
IsLabelled labels (origin.Root label) = ⊤
IsLabelled labels (origin.Need variable row) = (0 < variable) × (variable ≤ labels)
IsLabelled labels (origin.Most variable row) = (0 < variable) × (variable ≤ labels)
IsLabelled labels (origin.One id) = ⊤

-- The evidence has a text, and each of its constraints can be named.
pub record CanShow (e : Evidence) : Type 0 where
  pub labels : IsCount (length e.problem.labels)
  pub constraints : IsCount (length e.problem.constraints)
  pub lines : IsCount (length e.derivation.lines)
  pub normal : All (λ c. IsNormalOver (length e.problem.labels) (at_least c)) e.problem.constraints
  pub named : All (λ c. IsNamed e.problem.labels c.terms c.origin) e.problem.constraints
  pub labelled : All (λ c. IsLabelled (length e.problem.labels) c.origin) e.problem.constraints

-- The derivation checks, and its last line is the empty clause.
pub record Refutes (e : Evidence) : Type 0 where
  pub checks : CheckUpTo (length e.problem.labels) e.problem.constraints e.derivation.lines (length e.derivation.lines)
  pub ends : EndsEmpty e.derivation.lines

-- `because root ID/VERSION`, `because need ID/VERSION ROW`, `because most ID/VERSION ROW` or `because one ID`
abbrev pub cause_line : List (List ℕ) → Origin → List ℕ
cause_line labels (origin.Root label) = codes "because root " ++ field label
cause_line labels (origin.Need variable row) = codes "because need " ++ (field (label_at labels variable) ++ 32 ∷ decimal row)
cause_line labels (origin.Most variable row) = codes "because most " ++ (field (label_at labels variable) ++ 32 ∷ decimal row)
cause_line labels (origin.One id) = codes "because one " ++ field id

-- what the constraint with this number, from 1, stands for
abbrev pub origin_at : List Constraint → ℕ → Origin
origin_at constraints number =
    (slice_index_or constraints (number - 1) (record { terms = []; degree = 0; origin = origin.One [] })).origin

abbrev pub because_line : Problem → ℕ → List ℕ
because_line problem number = cause_line problem.labels (origin_at problem.constraints number)

-- a line for each of the constraints with these numbers
abbrev pub because_lines : Problem → List ℕ → List ℕ
because_lines problem numbers = flat_map (λ number. because_line problem number ++ 10 ∷ []) numbers

-- The numbers, rising, of the constraints that the derivation's last line goes back to.
pub record AreUsed (e : Evidence) (numbers : List ℕ) : Type 0 where
  pub rising : IsStrictlyIncreasing numbers
  pub exact : (n : ℕ) → Contains numbers n ↔ IsUsed (length e.problem.constraints) e.derivation.lines n

-- `unsatisfiable`, the evidence, and why: constraints that no assignment satisfies together
pub record IsUnsatisfiableText (e : Evidence) (text : List ℕ) : Type 0 where
  pub numbers : List ℕ
  pub used : AreUsed e numbers
  pub refuted : IsUnsatisfiable (hinted (map at_least e.problem.constraints) numbers)
  pub spelling : text ≡ (codes "unsatisfiable" ++ 10 ∷ []) ++ (evidence_text e ++ because_lines e.problem numbers)

-- `budget-spent BUDGET`, and the evidence
abbrev pub spent_text : ℕ → Evidence → List ℕ
spent_text budget e = codes "budget-spent " ++ (decimal budget ++ 10 ∷ evidence_text e)
