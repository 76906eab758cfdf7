-- Sums of which one is larger by a number at one place.
use Rattle.std.proofs.Common.{ℕ, zero, suc, ◌+◌, ◌<◌, ◌≤◌, List, [], ◌∷◌, length, get_or, sum_by, arith}
use Rattle.std.proofs.lemmas.List.Sums.{sum_by-cons, sum_by-le-sum_by}

pub sum_by-less : {X : Type 0} (f g : X → ℕ) (xs : List X) (i : ℕ) (d : X) (k : ℕ) → i < length xs → ((x : X) → f x ≤ g x) → f (get_or xs i d) + k ≤ g (get_or xs i d) → sum_by f xs + k ≤ sum_by g xs
sum_by-less f g [] i d k within each here = absurd (omega arith)
sum_by-less f g (x ∷ xs) zero d k within each here =
    omega (arith, sum_by-cons f x xs, sum_by-cons g x xs, sum_by-le-sum_by f g xs each)
sum_by-less f g (x ∷ xs) (suc i) d k within each here =
    omega (arith, sum_by-cons f x xs, sum_by-cons g x xs, each x, sum_by-less f g xs i d k (omega arith) each here)
