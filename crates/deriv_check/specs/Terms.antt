-- Terms as they are read. Clauses of private functions alone cite this.
use Rattle.std.specs.Prelude.{ℕ, ◌<◌, ◌≤◌, ◌^◌, List, ◌∷◌, ◌++◌, map, codes}
use Rattle.std.specs.Fmt.{decimal}
use Rattle.pb_core.specs.AtLeast.{AtLeast}
use Rattle.pb_core.specs.declared.constraint.Constraint.{Constraint}
use Rattle.pb_core.specs.declared.literal.Term.{Term}
use Rattle.deriv_check.specs.EvidenceForm.{IsLiteral}
use Rattle.deriv_check.specs.EvidenceText.{origin_word, term_word, lit_word}
use Rattle.deriv_check.specs.declared.derivation.Line.{Line}

abbrev pub IsTerm : Term → Type 0
IsTerm t = (t.coef < 2 ^ 64) × IsLiteral t.lit

-- a coefficient from 1 to the degree, and a variable from 1 to a number
pub record IsTermOver (variables degree : ℕ) (t : Term) : Type 0 where
  pub some_coef : 0 < t.coef
  pub small_coef : t.coef ≤ degree
  pub from_one : 0 < t.lit.variable
  pub within : t.lit.variable ≤ variables

abbrev pub constraint_of : List Term → ℕ → AtLeast
constraint_of terms degree = record { terms = terms; degree = degree }

-- the words of a constraint behind the first
abbrev pub constraint_parts : Constraint → List (List ℕ)
constraint_parts c = origin_word c.terms c.origin ∷ decimal c.degree ∷ map term_word c.terms

-- the words of a derivation's line behind the first
abbrev pub derived_parts : Line → List (List ℕ)
derived_parts line = map lit_word line.clause ++ codes ";" ∷ map decimal line.hints
