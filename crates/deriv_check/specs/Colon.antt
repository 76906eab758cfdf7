-- How a word is cut at its first `:`. Clauses of private functions alone cite this.
use Rattle.std.specs.Prelude.{ℕ, ◌==◌, not, Bool, List}
use Rattle.std.specs.List.{AllPass}
use Rattle.deriv_check.specs.EvidenceForm.{IsHint}

abbrev pub is_no_colon : ℕ → Bool
is_no_colon b = not (b == 58)

abbrev pub NoColon : List ℕ → Type 0
NoColon = AllPass is_no_colon

abbrev pub ArePair : ℕ × ℕ → Type 0
ArePair p = IsHint p.0 × IsHint p.1
