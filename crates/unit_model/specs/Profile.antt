use Rattle.std.specs.Prelude.{◌≢◌, ℕ, ◌≤◌, ◌==◌, ◌||◌, Bool, List, [], length}
use Rattle.std.specs.List.{AllPass}
use Rattle.std.specs.Char.{is_ascii_alphanumeric}

-- a letter, a digit, `_` or `-`
abbrev pub is_profile_byte : ℕ → Bool
is_profile_byte b = is_ascii_alphanumeric b || b == 95 || b == 45

-- What may name a profile: 1 to 64 letters, digits, `_` and `-`.
pub record IsProfile (name : List ℕ) : Type 0 where
  pub some : name ≢ []
  pub short : length name ≤ 64
  pub each : AllPass is_profile_byte name
