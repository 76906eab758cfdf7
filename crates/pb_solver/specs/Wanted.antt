-- The assignment that a caller would like best.
use Rattle.std.specs.Prelude.{ℕ, ◌==◌, Bool, List}
use Rattle.std.specs.List.{list_any}

-- exactly the variables of the list are true
abbrev pub is_wanted : List ℕ → ℕ → Bool
is_wanted order variable = list_any (λ v. v == variable) order
