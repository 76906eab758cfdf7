-- Rows that are added one after the other.
use Rattle.std.proofs.Common.{◌≡◌, ℕ, ◌+◌, ◌<◌, List, [], ◌∷◌, ◌++◌, length, get_or, take, drop, map, refl, sym, ◌∙◌, ap, subst, append_assoc, take-append-drop, Result, Ok, Err}
use Rattle.std.specs.Prelude.{OnOk, IfErr}
use Rattle.std.specs.List.{flat_map}
use Rattle.std.proofs.lemmas.Grind.{flat_map-append}
use Rattle.std.proofs.lemmas.List.{append-nil, take_more, drop_more}
use Rattle.pb_core.specs.declared.constraint.Constraint.{Constraint}
use Rattle.pb_rows.specs.Normalising.{AreNormalised, HasMoreTerms, Adds, AreTooMany}
use Rattle.pb_rows.specs.Rows.{Row}
use Rattle.pb_rows.proofs.NormalisingLaws.{more_terms_append}

pub adds_none : (old : List Constraint) → Adds [] old old
adds_none old before n = let P : List Row → Type 0 = λ rows. AreNormalised rows old in subst P (sym (append-nil before)) n

pub adds_then : (a b : List Row) (old mid new : List Constraint) → Adds a old mid → Adds b mid new → Adds (a ++ b) old new
adds_then a b old mid new first second before n =
    let P : List Row → Type 0 = λ rows. AreNormalised rows new in
    subst P (append_assoc before a b) (second (before ++ a) (first before n))

pub too_many_first : (a b : List Row) (old : List Constraint) → AreTooMany a old → AreTooMany (a ++ b) old
too_many_first a b old many before n =
    let P : List Row → Type 0 = λ rows. HasMoreTerms 4000000 rows in
    subst P (append_assoc before a b) (more_terms_append 4000000 (before ++ a) b (many before n))

pub too_many_then : (a b : List Row) (old mid : List Constraint) → Adds a old mid → AreTooMany b mid → AreTooMany (a ++ b) old
too_many_then a b old mid first many before n =
    let P : List Row → Type 0 = λ rows. HasMoreTerms 4000000 rows in
    subst P (append_assoc before a b) (many (before ++ a) (first before n))

pub adds_same : (a b : List Row) (old new : List Constraint) → a ≡ b → Adds a old new → Adds b old new
adds_same a b old new e adds = let P : List Row → Type 0 = λ rows. Adds rows old new in subst P e adds

pub too_many_same : (a b : List Row) (old : List Constraint) → a ≡ b → AreTooMany a old → AreTooMany b old
too_many_same a b old e many = let P : List Row → Type 0 = λ rows. AreTooMany rows old in subst P e many

-- ---- in a loop

flat_map_split : {X : Type 0} (f : X → List Row) (xs : List X) (i : ℕ) (d : X) → i < length xs → (flat_map f (take i xs) ++ f (get_or xs i d)) ++ flat_map f (drop (i + 1) xs) ≡ flat_map f xs
flat_map_split f xs i d h =
    append_assoc (flat_map f (take i xs)) (f (get_or xs i d)) (flat_map f (drop (i + 1) xs))
    ∙ (ap (λ rest. flat_map f (take i xs) ++ flat_map f rest) (sym (drop_more xs i d h))
    ∙ (sym (flat_map-append f (take i xs) (drop i xs)) ∙ ap (flat_map f) (take-append-drop i xs)))

flat_map_next : {X : Type 0} (f : X → List Row) (xs : List X) (i : ℕ) (d : X) → i < length xs → flat_map f (take i xs) ++ f (get_or xs i d) ≡ flat_map f (take (i + 1) xs)
flat_map_next f xs i d h =
    sym (ap (flat_map f) (take_more xs i d h) ∙ (flat_map-append f (take i xs) (get_or xs i d ∷ []) ∙ ap (λ rows. flat_map f (take i xs) ++ rows) (append-nil (f (get_or xs i d)))))

pub adds_more : {X : Type 0} (f : X → List Row) (xs : List X) (i : ℕ) (d : X) (old mid new : List Constraint) → i < length xs → Adds (flat_map f (take i xs)) old mid → Adds (f (get_or xs i d)) mid new → Adds (flat_map f (take (i + 1) xs)) old new
adds_more f xs i d old mid new h first second =
    adds_same _ (flat_map f (take (i + 1) xs)) old new (flat_map_next f xs i d h) (adds_then (flat_map f (take i xs)) (f (get_or xs i d)) old mid new first second)

pub too_many_at : {X : Type 0} (f : X → List Row) (xs : List X) (i : ℕ) (d : X) (old mid : List Constraint) → i < length xs → Adds (flat_map f (take i xs)) old mid → AreTooMany (f (get_or xs i d)) mid → AreTooMany (flat_map f xs) old
too_many_at f xs i d old mid h first many =
    too_many_same _ (flat_map f xs) old (flat_map_split f xs i d h)
    (too_many_first (flat_map f (take i xs) ++ f (get_or xs i d)) (flat_map f (drop (i + 1) xs)) old
    (too_many_then (flat_map f (take i xs)) (f (get_or xs i d)) old mid first many))

map_is : {X : Type 0} (f : X → Row) (xs : List X) → flat_map (λ x. f x ∷ []) xs ≡ map f xs
map_is f [] = refl
map_is f (x ∷ xs) = ap (λ rows. f x ∷ rows) (map_is f xs)

-- the same where each element has one row
pub adds_one_more : {X : Type 0} (f : X → Row) (xs : List X) (i : ℕ) (d : X) (old mid new : List Constraint) → i < length xs → Adds (map f (take i xs)) old mid → Adds (f (get_or xs i d) ∷ []) mid new → Adds (map f (take (i + 1) xs)) old new
adds_one_more f xs i d old mid new h first second =
    adds_same _ (map f (take (i + 1) xs)) old new (map_is f (take (i + 1) xs))
    (adds_more (λ x. f x ∷ []) xs i d old mid new h (adds_same _ (flat_map (λ x. f x ∷ []) (take i xs)) old mid (sym (map_is f (take i xs))) first) second)

pub too_many_at_one : {X : Type 0} (f : X → Row) (xs : List X) (i : ℕ) (d : X) (old mid : List Constraint) → i < length xs → Adds (map f (take i xs)) old mid → AreTooMany (f (get_or xs i d) ∷ []) mid → AreTooMany (map f xs) old
too_many_at_one f xs i d old mid h first many =
    too_many_same _ (map f xs) old (map_is f xs)
    (too_many_at (λ x. f x ∷ []) xs i d old mid h (adds_same _ (flat_map (λ x. f x ∷ []) (take i xs)) old mid (sym (map_is f (take i xs))) first) many)

-- ---- what follows of an answer

pub OnOk-then : {A E : Type 0} (r : Result A E) (P Q : Type 0) → (P → Q) → OnOk r P → OnOk r Q
OnOk-then (Ok a) P Q f p = f p
OnOk-then (Err e) P Q f p = p

pub IfErr-then : {A E : Type 0} (r : Result A E) (P Q : E → Type 0) → ((e : E) → P e → Q e) → IfErr r P → IfErr r Q
IfErr-then (Ok a) P Q f p = p
IfErr-then (Err e) P Q f p = f e p
