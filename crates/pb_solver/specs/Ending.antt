-- How a search ends.
use Rattle.std.specs.Prelude.{◌≡◌, ℕ, ◌<◌, [], Option, Some, None, length}
use Rattle.pb_core.specs.Satisfied.{SatisfiesAll}
use Rattle.pb_trail.specs.Rest.{IsSettled}
use Rattle.pb_solver.specs.SearchHolds.{SearchHolds, IsSettledSearch, IsSameSearch, problem_of, wish_of}
use Rattle.pb_solver.specs.Spending.{turns_left}
use Rattle.pb_solver.specs.Values.{AreAssigned}
use Rattle.pb_solver.specs.declared.search.Ending.{Ending}
use Rattle.pb_solver.specs.declared.search.Ending.TheVariants as ending
use Rattle.pb_solver.specs.declared.search.Search.{Search}

-- all rest, and each variable has a value
pub record EndsInModel (search : Search) : Type 0 where
  pub rest : IsSettled search.levels.trail None
  pub assigned : AreAssigned search.levels.trail.kept.values

-- a constraint is violated though nothing was decided
pub record EndsInRefutation (search : Search) (conflict : ℕ) : Type 0 where
  pub found : IsSettled search.levels.trail (Some conflict)
  pub undecided : search.levels.starts.items ≡ []
  pub not_wanted : ¬ (SatisfiesAll (wish_of search) (problem_of search))

-- a constraint is violated behind a decision, and no clause may be learned any more
pub record EndsSpent (search : Search) : Type 0 where
  pub decided : 0 < length search.levels.starts.items
  pub all : length search.lines ≡ search.budget
  pub not_wanted : ¬ (SatisfiesAll (wish_of search) (problem_of search))

abbrev pub EndsIn : Search → Ending → Type 0
EndsIn search ending.Model = EndsInModel search
EndsIn search (ending.Refuted conflict) = EndsInRefutation search conflict
EndsIn search ending.Spent = EndsSpent search

-- the search goes on, with fewer turns left
pub record IsTurned (before after : Search) : Type 0 where
  pub settled : IsSettledSearch after
  pub same : IsSameSearch before after
  pub fewer : turns_left after < turns_left before

-- the search is over
pub record IsOver (before after : Search) (ending : Ending) : Type 0 where
  pub holds : SearchHolds after
  pub same : IsSameSearch before after
  pub ends : EndsIn after ending

-- how a turn went
abbrev pub IsTurn : Search → Search → Option Ending → Type 0
IsTurn before after None = IsTurned before after
IsTurn before after (Some ending) = IsOver before after ending
