use Rattle.std.specs.Prelude.{Bool, IsTrue, List, [], ◌∷◌, Option, All}
use Rattle.pb_core.specs.AtLeast.{AtLeast}
use Rattle.pb_core.specs.Values.{is_false, is_open}
use Rattle.pb_core.specs.Propagates.{IsAtRest}
use Rattle.pb_core.specs.declared.literal.Lit.{Lit}

-- values under which propagation over the database does nothing, though the clause would force its first literal
pub record IsFreshUnder (lit : Lit) (others : List Lit) (database : List AtLeast) (values : List (Option Bool)) : Type 0 where
  pub at_rest : IsAtRest database values
  pub first_open : IsTrue (is_open values lit)
  pub others_false : All (λ other. IsTrue (is_false values other)) others

-- The clause adds something to the database: it is neither one of its clauses nor a weaker one.
abbrev pub Fresh : List Lit → List AtLeast → Type 0
Fresh [] database = ⊥
Fresh (lit ∷ others) database = (values : List (Option Bool)) × IsFreshUnder lit others database values
