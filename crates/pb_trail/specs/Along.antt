-- Literals that are made true one after the other.
use Rattle.std.specs.Prelude.{ℕ, Bool, List, Option, None, fold, replicate, take, sum_by, count_by}
use Rattle.pb_core.specs.AtLeast.{AtLeast}
use Rattle.pb_core.specs.Literal.{complement}
use Rattle.pb_core.specs.Occurrences.{holds_literal}
use Rattle.pb_core.specs.Values.{make_true}
use Rattle.pb_trail.specs.declared.trail.Entry.{Entry}

-- the values after all of them, where all variables were open
unfoldable pub values_along : ℕ → List Entry → List (Option Bool)
values_along variables entries = fold (λ values e. make_true values e.lit) (replicate variables None) entries

-- the values before the entry at a place
abbrev pub values_before : ℕ → List Entry → ℕ → List (Option Bool)
values_before variables entries place = values_along variables (take place entries)

-- how many slacks they changed
unfoldable pub weight : List AtLeast → List Entry → ℕ
weight constraints entries = sum_by (λ e. count_by (holds_literal (complement e.lit)) constraints) entries
