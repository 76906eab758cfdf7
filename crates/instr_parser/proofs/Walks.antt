-- Steps of walks over lists.
use Rattle.std.proofs.Common.{◌≡◌, ℕ, ◌+◌, ◌<◌, ◌≤◌, Bool, true, false, ◌||◌, cond, List, [], ◌∷◌, ◌++◌, length, map, drop, get_or, filter, Some, None, refl, sym, ap, ◌∙◌, append_assoc, append-nil}
use Rattle.std.specs.List.{list_any, find}
use Rattle.std.proofs.lemmas.List.{drop_more, drop_all}

pub list_any-map : {X Y : Type 0} (p : Y → Bool) (f : X → Y) (xs : List X) → list_any p (map f xs) ≡ list_any (λ x. p (f x)) xs
list_any-map p f [] = refl
list_any-map p f (x ∷ xs) = ap (λ b. p (f x) || b) (list_any-map p f xs)

-- the items that a filter keeps, behind those that are kept so far
module _ {X : Type 0} (p : X → Bool) (front xs : List X) (i : ℕ) (d : X) where
  abbrev behind : List X
  behind = filter p (drop (i + 1) xs)

  at : (b : Bool) → i < length xs → p (get_or xs i d) ≡ b → filter p (drop i xs) ≡ cond b (get_or xs i d ∷ behind) behind
  at b inside is = ap (filter p) (drop_more xs i d inside) ∙ ap (λ b'. cond b' (get_or xs i d ∷ behind) behind) is

  pub kept_one : i < length xs → p (get_or xs i d) ≡ true → (front ++ get_or xs i d ∷ []) ++ behind ≡ front ++ filter p (drop i xs)
  kept_one inside passes = append_assoc front (get_or xs i d ∷ []) behind ∙ ap (λ ys. front ++ ys) (sym (at true inside passes))

  pub passed_one : i < length xs → p (get_or xs i d) ≡ false → front ++ behind ≡ front ++ filter p (drop i xs)
  passed_one inside fails = ap (λ ys. front ++ ys) (sym (at false inside fails))

-- the same of what is seen of items
module _ {X Y : Type 0} (f : Y → X) (p : X → Bool) (front : List X) (ys : List Y) (i : ℕ) (d : Y) where
  abbrev seen_behind : List X
  seen_behind = filter p (map f (drop (i + 1) ys))

  seen_at : (b : Bool) → i < length ys → p (f (get_or ys i d)) ≡ b → filter p (map f (drop i ys)) ≡ cond b (f (get_or ys i d) ∷ seen_behind) seen_behind
  seen_at b inside is = ap (λ zs. filter p (map f zs)) (drop_more ys i d inside) ∙ ap (λ b'. cond b' (f (get_or ys i d) ∷ seen_behind) seen_behind) is

  pub kept_seen : i < length ys → p (f (get_or ys i d)) ≡ true → (front ++ f (get_or ys i d) ∷ []) ++ seen_behind ≡ front ++ filter p (map f (drop i ys))
  kept_seen inside passes = append_assoc front (f (get_or ys i d) ∷ []) seen_behind ∙ ap (λ zs. front ++ zs) (sym (seen_at true inside passes))

  pub passed_seen : i < length ys → p (f (get_or ys i d)) ≡ false → front ++ seen_behind ≡ front ++ filter p (map f (drop i ys))
  passed_seen inside fails = ap (λ zs. front ++ zs) (sym (seen_at false inside fails))

-- the first item that passes
module _ {X : Type 0} (p : X → Bool) (xs : List X) (i : ℕ) (d : X) where
  pub found_here : i < length xs → p (get_or xs i d) ≡ true → find p (drop i xs) ≡ Some (get_or xs i d)
  found_here inside passes = ap (find p) (drop_more xs i d inside) ∙ ap (λ b. cond b (Some (get_or xs i d)) (find p (drop (i + 1) xs))) passes

  pub found_later : i < length xs → p (get_or xs i d) ≡ false → find p (drop (i + 1) xs) ≡ find p (drop i xs)
  found_later inside fails = sym (ap (find p) (drop_more xs i d inside) ∙ ap (λ b. cond b (Some (get_or xs i d)) (find p (drop (i + 1) xs))) fails)

pub filter-none : {X : Type 0} (p : X → Bool) (front xs : List X) (i : ℕ) → length xs ≤ i → front ++ filter p (drop i xs) ≡ front
filter-none p front xs i past = rw (drop_all i xs past) (append-nil front)

pub find-none : {X : Type 0} (p : X → Bool) (xs : List X) (i : ℕ) → length xs ≤ i → find p (drop i xs) ≡ None
find-none p xs i past = rw (drop_all i xs past) refl
