-- Lists of names.
use Rattle.std.proofs.Common.{ℕ, zero, suc, ◌<◌, List, [], ◌∷◌, length, get_or, Bor, map, All, arith}
use Rattle.std.proofs.lemmas.List.Elements.{All-head, All-tail}
use Rattle.folder_core.specs.Name.{IsName}

-- an element of a list of names is a name
pub named_at : (names : List (Bor (List ℕ))) (i : ℕ) (d : Bor (List ℕ)) → All IsName (map (λ name. name.now) names) → i < length names → IsName (get_or names i d).now
named_at [] i d all h = absurd (omega arith)
named_at (name ∷ names) zero d all h = All-head IsName name.now (map (λ n. n.now) names) all
named_at (name ∷ names) (suc i) d all h = named_at names i d (All-tail IsName name.now (map (λ n. n.now) names) all) (omega arith)
