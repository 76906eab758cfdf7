-- Values of variables that are numbered from 1: the n-th value is that of variable n.
use Rattle.std.specs.Prelude.{◌≡◌, ℕ, ◌-◌, ◌==◌, Bool, false, not, List, Option, Some, None, is_none, IfSome, slice_index_or, slice_set, if◌then◌else◌}
use Rattle.pb_core.specs.declared.literal.Lit.{Lit}
use Rattle.pb_core.specs.Literal.{same_truth}

-- None where the variable is open, or is none of these
abbrev pub value_of : List (Option Bool) → ℕ → Option Bool
value_of values variable = if variable == 0 then None else slice_index_or values (variable - 1) None

-- the values, with another value of one variable
abbrev pub set_value : List (Option Bool) → ℕ → Option Bool → List (Option Bool)
set_value values variable value = if variable == 0 then values else slice_set values (variable - 1) value

-- the value is there, and is this truth
abbrev pub has_truth : Option Bool → Bool → Bool
has_truth None truth = false
has_truth (Some b) truth = same_truth b truth

abbrev pub is_true : List (Option Bool) → Lit → Bool
is_true values lit = has_truth (value_of values lit.variable) lit.positive

abbrev pub is_false : List (Option Bool) → Lit → Bool
is_false values lit = has_truth (value_of values lit.variable) (not lit.positive)

abbrev pub is_open : List (Option Bool) → Lit → Bool
is_open values lit = is_none (value_of values lit.variable)

-- the values with this literal made true
abbrev pub make_true : List (Option Bool) → Lit → List (Option Bool)
make_true values lit = set_value values lit.variable (Some lit.positive)

-- the full assignment has each of the values
abbrev pub Completes : (ℕ → Bool) → List (Option Bool) → Type 0
Completes full values = (variable : ℕ) → IfSome (value_of values variable) (λ b. full variable ≡ b)

-- the second values have each of the first
abbrev pub Includes : List (Option Bool) → List (Option Bool) → Type 0
Includes less more = (variable : ℕ) → IfSome (value_of less variable) (λ b. value_of more variable ≡ Some b)
