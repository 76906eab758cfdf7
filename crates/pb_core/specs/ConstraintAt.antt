use Rattle.std.specs.Prelude.{ℕ, ◌-◌, List, [], slice_index_or}
use Rattle.pb_core.specs.AtLeast.{AtLeast}

-- the constraint with this number, from 1
abbrev pub constraint_at : List AtLeast → ℕ → AtLeast
constraint_at constraints number = slice_index_or constraints (number - 1) (record { terms = []; degree = 0 })
