use Rattle.std.specs.Prelude.{ℕ, Bool, false, List, slice_index_or}

-- the mark of a number, where numbers are places from 0
abbrev pub is_marked : List Bool → ℕ → Bool
is_marked marks number = slice_index_or marks number false
