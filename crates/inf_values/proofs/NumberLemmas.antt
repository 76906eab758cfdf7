-- Facts on numbers in values.
use Rattle.std.proofs.Common.{◌≡◌, ℕ, ◌+◌, ◌*◌, ◌-◌, ◌≤◌, ◌&&◌, nat_le, Bool, true, false, List, [], ◌∷◌, None, IfSome, if◌then◌else◌, refl, arith}
use Rattle.std.specs.Char.{is_ascii_digit}
use Rattle.std.proofs.lemmas.Bool.Decides.{nat_tests}
use Rattle.inf_values.specs.Number.{number_at_most, digits_from, is_plain}

both_true : (x y : Bool) → (x && y) ≡ true → y ≡ true
both_true true y h = h
both_true false y h = absurd (cc)

at_most : (m n : ℕ) → nat_le m n ≡ true → m ≤ n
at_most m n h = grind (arith, nat_tests)

digits_small : (most number : ℕ) (text : List ℕ) → number ≤ most → IfSome (digits_from most number text) (λ n. n ≤ most)
unfolding digits_from
digits_small most number [] h = h
digits_small most number (b ∷ text) h =
    by (is_ascii_digit b && nat_le (10 * number + (b - 48)) most) refl (λ small. digits_small most (10 * number + (b - 48)) text small)
  where
    by : (t : Bool) → (is_ascii_digit b && nat_le (10 * number + (b - 48)) most) ≡ t
        → (10 * number + (b - 48) ≤ most → IfSome (digits_from most (10 * number + (b - 48)) text) (λ n. n ≤ most))
        → IfSome (if t then digits_from most (10 * number + (b - 48)) text else None) (λ n. n ≤ most)
    by true e later = let small = both_true (is_ascii_digit b) (nat_le (10 * number + (b - 48)) most) e in later (at_most (10 * number + (b - 48)) most small)
    by false e later = tt

-- A number isn't above the most that is asked for.
pub number_small : (most : ℕ) (text : List ℕ) → IfSome (number_at_most most text) (λ n. n ≤ most)
number_small most text = by (is_plain text)
  where
    by : (t : Bool) → IfSome (if t then digits_from most 0 text else None) (λ n. n ≤ most)
    by true = digits_small most 0 text (omega arith)
    by false = tt
