use Rattle.std.specs.Prelude.{ℕ, List, map}
use Rattle.pb_core.specs.declared.literal.Lit.{Lit}
use Rattle.pb_core.specs.declared.literal.Term.{Term}
use Rattle.pb_core.specs.declared.constraint.Constraint.{Constraint}

-- the coefficients of the true literals sum to at least the degree
pub record AtLeast : Type 0 where
  pub terms : List Term
  pub degree : ℕ

-- a constraint without its origin
abbrev pub at_least : Constraint → AtLeast
at_least c = record { terms = c.terms; degree = c.degree }

-- the constraint of a clause: at least one of the literals is true
abbrev pub clause : List Lit → AtLeast
clause lits = record { terms = map (λ lit. record { coef = 1; lit = lit }) lits; degree = 1 }
