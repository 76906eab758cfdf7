use Rattle.std.specs.Prelude.{◌≡◌, ℕ, ◌<◌, ◌^◌, List}
use Rattle.std.specs.Fmt.{decimal}

-- The word is this number in decimal digits, without a sign or a leading zero.
abbrev pub DenotesNumber : List ℕ → ℕ → Type 0
DenotesNumber word number = (word ≡ decimal number) × (number < 2 ^ 32)
