-- What clauses see of the pairs.
use Rattle.std.specs.Prelude.{◌≡◌, ℕ, List, [], ◌∷◌, map, refl}
use Rattle.std.proofs.Common.{ap}
use Rattle.props_reader.specs.declared.pairs.Pair.{Pair}

-- each pair as its key and its value
abbrev pub pairs_seen : List Pair → List (List ℕ × List ℕ)
pairs_seen pairs = map (λ p. (p.key, p.value)) pairs

abbrev pub pairs_unseen : List (List ℕ × List ℕ) → List Pair
pairs_unseen pairs = map (λ p. record { key = p.0; value = p.1 }) pairs

-- nothing of a pair is forgotten
pub pairs_unseen-pairs_seen : (pairs : List Pair) → pairs_unseen (pairs_seen pairs) ≡ pairs
pairs_unseen-pairs_seen [] = refl
pairs_unseen-pairs_seen (p ∷ pairs) = ap (λ rest. p ∷ rest) (pairs_unseen-pairs_seen pairs)
