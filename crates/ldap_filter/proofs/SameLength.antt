-- Filters of another number aren't equal.
use Rattle.std.proofs.Common.{◌≡◌, Bool, true, false, List, [], ◌∷◌, map, length, refl, ◌&&◌, arith}
use Rattle.ldap_filter.specs.Same.{filter_eq, each_is}
use Rattle.ldap_filter.specs.declared.filter.Filter.{Filter}

pub each_is-length : (fs gs : List Filter) → ¬ (length fs ≡ length gs) → false ≡ each_is (map filter_eq fs) gs
each_is-length [] [] other = absurd (other refl)
each_is-length [] (g ∷ gs) other = refl
each_is-length (f ∷ fs) [] other = refl
each_is-length (f ∷ fs) (g ∷ gs) other =
    let rest = each_is-length fs gs (λ e. other (omega (arith, e))) in
    by_first (filter_eq f g) (each_is (map filter_eq fs) gs) rest
  where
    by_first : (x y : Bool) → false ≡ y → false ≡ (x && y)
    by_first true y e = e
    by_first false y e = refl
