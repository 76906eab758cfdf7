-- When a line checks, and else why not.
use Rattle.std.specs.Prelude.{◌≡◌, ◌≢◌, ℕ, ◌<◌, ◌≤◌, true, false, List, length, map, All, AllPairs}
use Rattle.pb_core.specs.AtLeast.{AtLeast}
use Rattle.pb_core.specs.ConstraintAt.{constraint_at}
use Rattle.pb_core.specs.declared.literal.Lit.{Lit}
use Rattle.deriv_check.specs.HintRule.{all_false, conflicts}
use Rattle.deriv_check.specs.declared.derivation.Line.{Line}
use Rattle.deriv_check.specs.declared.derivation.Why.{Why}
use Rattle.deriv_check.specs.declared.derivation.Why.TheVariants as why

-- each variable is one of the problem's, and none stands twice
pub record HasLiterals (variables : ℕ) (lits : List Lit) : Type 0 where
  pub among : All (λ l. (0 < l.variable) × (l.variable ≤ variables)) lits
  pub distinct : AllPairs (λ a b. a.variable ≢ b.variable) lits

-- each hint is the number of a constraint or of an earlier line
abbrev pub HasHints : List AtLeast → List ℕ → Type 0
HasHints database hints = All (λ h. (0 < h) × (h ≤ length database)) hints

abbrev pub hinted : List AtLeast → List ℕ → List AtLeast
hinted database hints = map (constraint_at database) hints

pub record Checks (variables : ℕ) (database : List AtLeast) (line : Line) : Type 0 where
  pub literals : HasLiterals variables line.clause
  pub hints : HasHints database line.hints
  pub conflict : conflicts (all_false variables line.clause) (hinted database line.hints) ≡ true

-- Literals are tested first, then hints, and then the conflict.
abbrev pub Fails : ℕ → List AtLeast → Line → Why → Type 0
Fails variables database line why.Text = ⊥
Fails variables database line why.Literal = ¬ (HasLiterals variables line.clause)
Fails variables database line why.Hint = HasLiterals variables line.clause × ¬ (HasHints database line.hints)
Fails variables database line why.NoConflict =
    HasLiterals variables line.clause × HasHints database line.hints × (conflicts (all_false variables line.clause) (hinted database line.hints) ≡ false)
