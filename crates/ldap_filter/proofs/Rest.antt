-- The rest of a list at a place.
use Rattle.std.proofs.Common.{◌≡◌, ℕ, suc, ◌+◌, ◌<◌, Bool, true, false, List, ◌∷◌, length, get_or, drop, map, refl, ap, sym, add-one, drop-cons}
use Rattle.std.specs.List.{list_any, list_all}

pub rest_at : {X : Type 0} (xs : List X) (i : ℕ) (x : X) → i < length xs → x ≡ get_or xs i x → drop i xs ≡ x ∷ drop (i + 1) xs
rest_at xs i x inside is = rw (add-one i, drop-cons xs i x inside) (ap (λ y. y ∷ drop (suc i) xs) (sym is))

-- one that fails decides that not all pass, and one that passes that some do
pub all_stopped : {X : Type 0} (f : X → Bool) (xs : List X) (i : ℕ) (x : X) → i < length xs → x ≡ get_or xs i x → f x ≡ false → list_all (λ t. t) (map f (drop i xs)) ≡ false
all_stopped f xs i x inside is fails = rw (rest_at xs i x inside is, fails) refl

pub any_found : {X : Type 0} (f : X → Bool) (xs : List X) (i : ℕ) (x : X) → i < length xs → x ≡ get_or xs i x → f x ≡ true → list_any (λ t. t) (map f (drop i xs)) ≡ true
any_found f xs i x inside is passes = rw (rest_at xs i x inside is, passes) refl
