-- How many steps a search may have taken, and how many turns it may still take.
use Rattle.std.specs.Prelude.{ℕ, ◌+◌, ◌-◌, ◌*◌, List, length, sum_by}
use Rattle.pb_core.specs.AtLeast.{AtLeast}
use Rattle.pb_trail.specs.Along.{weight}
use Rattle.pb_solver.specs.SearchHolds.{variables_of, problem_of}
use Rattle.pb_solver.specs.declared.search.Search.{Search}

-- how many terms there are
unfoldable pub term_count : List AtLeast → ℕ
term_count constraints = sum_by (λ c. length c.terms) constraints

-- the terms that there may be in the end: those of the problem, and a literal of each variable in each line
unfoldable pub most_terms : Search → ℕ
most_terms search = term_count (problem_of search) + search.budget * variables_of search

-- Between two conflicts a variable gets a value once, and a conflict may take all values back.
unfoldable pub spent : Search → ℕ
spent search = 2 * (length search.lines * most_terms search) + weight search.levels.trail.kept.constraints search.levels.trail.entries.items

unfoldable pub most_spent : Search → ℕ
most_spent search = 2 * ((search.budget + 1) * most_terms search)

-- A line that is learned is worth more than all variables.
unfoldable pub turns_left : Search → ℕ
turns_left search = (search.budget - length search.lines) * (variables_of search + 1) + (variables_of search - length search.levels.trail.entries.items)
