-- What holds of a search at each turn.
use Rattle.std.specs.Prelude.{◌≡◌, ℕ, ◌+◌, ◌-◌, ◌≤◌, Bool, false, List, [], ◌++◌, length, map, take, slice_index_or}
use Rattle.pb_core.specs.AtLeast.{AtLeast}
use Rattle.pb_core.specs.Satisfied.{SatisfiesAll}
use Rattle.pb_core.specs.Values.{Completes}
use Rattle.deriv_check.specs.Database.{line_seen}
use Rattle.pb_trail.specs.Rest.{IsSettled}
use Rattle.pb_solver.specs.Levels.{LevelsHold}
use Rattle.pb_solver.specs.Lines.{AreLearned}
use Rattle.pb_solver.specs.declared.search.Search.{Search}

-- how many variables there are
abbrev pub variables_of : Search → ℕ
variables_of search = length search.levels.trail.kept.values

-- the constraints of the problem, which stand before the clauses of the lines
abbrev pub problem_of : Search → List AtLeast
problem_of search = take (length search.levels.trail.kept.constraints - length search.lines) search.levels.trail.kept.constraints

-- the assignment that is wanted
abbrev pub wish_of : Search → ℕ → Bool
wish_of search variable = slice_index_or search.wanted.items variable false

-- As long as the wanted assignment may satisfy the problem, no clause was learned, and all values are the wanted ones.
pub record FollowsWish (search : Search) : Type 0 where
  pub no_line : search.lines ≡ []
  pub agrees : Completes (wish_of search) search.levels.trail.kept.values

pub record SearchHolds (search : Search) : Type 0 where
  pub levels : LevelsHold search.levels
  pub all : search.levels.trail.kept.constraints ≡ problem_of search ++ map line_seen search.lines
  pub few : length (problem_of search) ≤ 1000000000
  pub budget : search.budget ≤ 50000
  pub most : length search.lines ≤ search.budget
  pub learned : AreLearned (variables_of search) (problem_of search) search.lines
  pub wishes : length search.wanted.items ≡ variables_of search + 1
  pub wish : SatisfiesAll (wish_of search) (problem_of search) → FollowsWish search

-- the same, and all constraints rest, or the one that was found is violated
pub record IsSettledSearch (search : Search) : Type 0 where
  pub holds : SearchHolds search
  pub settled : IsSettled search.levels.trail search.found

-- the same search of the same problem
pub record IsSameSearch (before after : Search) : Type 0 where
  pub problem : problem_of after ≡ problem_of before
  pub variables : variables_of after ≡ variables_of before
  pub wanted : after.wanted ≡ before.wanted
  pub budget : after.budget ≡ before.budget
