-- Steps of a walk that may be refused.
use Rattle.std.proofs.Common.{◌≡◌, ℕ, ◌+◌, ◌<◌, List, ◌∷◌, ◌++◌, length, drop, get_or, Some, Result, Ok, Err, refl, sym, ap, ◌∙◌, append_assoc}
use Rattle.std.specs.List.{slice_get}
use Rattle.std.proofs.lemmas.List.{drop_more}
use Rattle.std.proofs.lemmas.Option.{get_or_from_slice_get}
use Rattle.inf_reader.specs.declared.fault.InfRefusal.{InfRefusal}
use Rattle.inf_reader.specs.declared.fault.InfRefusal.TheVariants as refusals
use Rattle.inf_reader.specs.Gives.{◌>>=◌, Refuses}

-- what is refused in one reading is refused in another that goes on from it
pub Refuses-along : {X Y : Type 0} (e : InfRefusal) (a : Result X InfRefusal) (b : Result Y InfRefusal) → Refuses e a → ((r : InfRefusal) → a ≡ Err r → b ≡ Err r) → Refuses e b
Refuses-along (refusals.UnknownKey key) a b h along = along _ h
Refuses-along (refusals.LeftOutKey key) a b h along = along _ h
Refuses-along (refusals.NoHost key) a b h along = along _ h
Refuses-along (refusals.MissingId n) a b h along = along _ h
Refuses-along (refusals.BadValue key) a b h along = along _ h
Refuses-along (refusals.Duplicate name) a b h along = along _ h
Refuses-along (refusals.TooManyRequirements name) a b h along = along _ h
Refuses-along refusals.NoMemory a b h along = tt

-- what is read, with more in front of it
abbrev pub with_front : {X : Type 0} → List X → Result (List X) InfRefusal → Result (List X) InfRefusal
with_front front read = read >>= λ xs. Ok (front ++ xs)

pub with_front-more : {X : Type 0} (front more : List X) (read : Result (List X) InfRefusal)
    → with_front front (read >>= λ xs. Ok (more ++ xs)) ≡ with_front (front ++ more) read
with_front-more front more (Ok xs) = ap Ok (sym (append_assoc front more xs))
with_front-more front more (Err r) = refl

-- the items from `i` on, the first of them apart
pub drop-item : {X : Type 0} (xs : List X) (i : ℕ) (x : X) → i < length xs → x ≡ get_or xs i x → drop i xs ≡ x ∷ drop (i + 1) xs
drop-item xs i x inside is = drop_more xs i x inside ∙ ap (λ y. y ∷ drop (i + 1) xs) (sym is)

-- the same for what is got at a place
pub drop-got : {X : Type 0} (xs : List X) (i : ℕ) (x : X) → i < length xs → Some x ≡ slice_get xs i → drop i xs ≡ x ∷ drop (i + 1) xs
drop-got xs i x inside got = drop-item xs i x inside (sym (get_or_from_slice_get xs i x x (sym got)))
