use Rattle.std.specs.Prelude.{ℕ, ◌==◌, not, Bool}

abbrev pub is_no_slash : ℕ → Bool
is_no_slash b = not (b == 47)

abbrev pub is_no_equals : ℕ → Bool
is_no_equals b = not (b == 61)
