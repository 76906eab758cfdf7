-- The first place of each piece leaves the most to the later ones.
use Rattle.std.proofs.Common.{◌≡◌, ℕ, zero, suc, ◌+◌, ◌-◌, ◌≤◌, ◌<◌, ◌⊎◌, inl, inr, Bool, true, false, ◌||◌, ◌&&◌, nat_eq, Option, Some, None, cond, List, [], ◌∷◌, ◌++◌, length, get_or, drop, refl, ap, sym, ◌∙◌, arith, le_refl}
use Rattle.std.proofs.lemmas.List.{drop-drop}
use Rattle.std.proofs.lemmas.Bool.{cases_lt}
use Rattle.std.specs.List.{starts_with, ends_with, list_any}
use Rattle.std.specs.Cmp.Lexicographic.{pointwise}
use Rattle.ldap_filter.specs.Pieces.{tails, fits}
use Rattle.ldap_filter.specs.Behind.{behind}
use Rattle.ldap_filter.specs.SameLaws.{text_eq-same}
use Rattle.ldap_filter.proofs.Rest.{rest_at}

-- some end of the value fits the pieces
abbrev pub end_fits : List (List ℕ) → List ℕ → Bool
end_fits pieces value = list_any (fits pieces) (tails value)

abbrev end_fits_in : List (List ℕ) → Option (List ℕ) → Bool
end_fits_in pieces None = false
end_fits_in pieces (Some value) = end_fits pieces value

or_absorbs : (x y : Bool) → (y ≡ true → x ≡ true) → (x || y) ≡ x
or_absorbs true y h = refl
or_absorbs false true h = absurd (cc (h refl))
or_absorbs false false h = refl

or_true : (x : Bool) → (x || true) ≡ true
or_true true = refl
or_true false = refl

end_fits-drop : (pieces : List (List ℕ)) (n : ℕ) (value : List ℕ) → end_fits pieces (drop n value) ≡ true → end_fits pieces value ≡ true
end_fits-drop pieces zero value e = e
end_fits-drop pieces (suc n) [] e = e
end_fits-drop pieces (suc n) (x ∷ value) e = rw (end_fits-drop pieces n value e) (or_true (fits pieces (x ∷ value)))

-- the rest is the value without the piece and perhaps more
abbrev IsEnd : List ℕ → List ℕ → List ℕ → Type 0
IsEnd p value rest = (n : ℕ) × (length p ≤ n) × (rest ≡ drop n value)

place-behind : (p value rest : List ℕ) → behind p value ≡ Some rest → IsEnd p value rest
place-behind p [] rest e = by_test (starts_with nat_eq [] p) e
  where
    by_test : (t : Bool) → cond t (Some (drop (length p) [])) None ≡ Some rest → IsEnd p [] rest
    by_test true e = let same : rest ≡ drop (length p) [] = cc in (length p, le_refl (length p), same)
    by_test false e = absurd (cc)
place-behind p (x ∷ value) rest e = by_test (starts_with nat_eq (x ∷ value) p) e (place-behind p value rest)
  where
    by_test : (t : Bool) → cond t (Some (drop (length p) (x ∷ value))) (behind p value) ≡ Some rest → (behind p value ≡ Some rest → IsEnd p value rest) → IsEnd p (x ∷ value) rest
    by_test true e later = let same : rest ≡ drop (length p) (x ∷ value) = cc in (length p, le_refl (length p), same)
    by_test false e later = let place = later e in (suc place.0, omega (arith, place.1), place.2)

later_ends : (p : List ℕ) (pieces : List (List ℕ)) (x : ℕ) (value : List ℕ) → (o : Option (List ℕ)) → behind p value ≡ o → end_fits_in pieces o ≡ true → end_fits pieces (drop (length p) (x ∷ value)) ≡ true
later_ends p pieces x value None e h = absurd (cc)
later_ends p pieces x value (Some rest) e h =
    let place = place-behind p value rest e in
    let more = suc place.0 - length p in
    let sum : length p + more ≡ suc place.0 = omega (arith, place.1) in
    let same : drop more (drop (length p) (x ∷ value)) ≡ rest = drop-drop more (length p) (x ∷ value) ∙ (ap (λ n. drop n (x ∷ value)) sum ∙ sym place.2) in
    end_fits-drop pieces more (drop (length p) (x ∷ value)) (ap (end_fits pieces) same ∙ h)

-- the first place of a piece decides
any-behind : (p q : List ℕ) (pieces : List (List ℕ)) (value : List ℕ) → end_fits (p ∷ q ∷ pieces) value ≡ end_fits_in (q ∷ pieces) (behind p value)
any-behind p q pieces [] = by_test (starts_with nat_eq [] p)
  where
    by_test : (t : Bool) → ((t && end_fits (q ∷ pieces) (drop (length p) [])) || false) ≡ end_fits_in (q ∷ pieces) (cond t (Some (drop (length p) [])) None)
    by_test true = or_absorbs _ false (λ e. absurd (cc))
    by_test false = refl
any-behind p q pieces (x ∷ value) = rw (any-behind p q pieces value) (by_test (starts_with nat_eq (x ∷ value) p))
  where
    by_test : (t : Bool) → ((t && end_fits (q ∷ pieces) (drop (length p) (x ∷ value))) || end_fits_in (q ∷ pieces) (behind p value)) ≡ end_fits_in (q ∷ pieces) (cond t (Some (drop (length p) (x ∷ value))) (behind p value))
    by_test true = or_absorbs _ _ (later_ends p (q ∷ pieces) x value (behind p value) refl)
    by_test false = refl

other_length : (p value : List ℕ) (t : Bool) → pointwise nat_eq p value ≡ t → ¬ (length p ≡ length value) → pointwise nat_eq p value ≡ false
other_length p value true e other = absurd (other (ap length (text_eq-same p value e)))
other_length p value false e other = e

or_false : (x y : Bool) → y ≡ false → (x || y) ≡ x
or_false true y e = refl
or_false false y e = e

-- the last piece is at the end
pub end_fits-last : (p value : List ℕ) → end_fits (p ∷ []) value ≡ ends_with nat_eq value p
end_fits-last p [] =
    let none : 0 - length p ≡ 0 = omega arith in
    rw none (or_false (pointwise nat_eq p []) false refl)
end_fits-last p (x ∷ value) = rw (end_fits-last p value) (by_length (cases_lt (length value) (length p)))
  where
    by_length : (length value < length p) ⊎ (length p ≤ length value) → (pointwise nat_eq p (x ∷ value) || ends_with nat_eq value p) ≡ ends_with nat_eq (x ∷ value) p
    by_length (inl long) =
        let none : length value - length p ≡ 0 = omega arith in
        let none' : suc (length value) - length p ≡ 0 = omega arith in
        let fails = other_length p value (pointwise nat_eq p value) refl (omega arith) in
        rw (none, none') (or_false (pointwise nat_eq p (x ∷ value)) (pointwise nat_eq p value) fails)
    by_length (inr short) =
        let one_more : suc (length value) - length p ≡ suc (length value - length p) = omega arith in
        let fails = other_length p (x ∷ value) (pointwise nat_eq p (x ∷ value)) refl (omega arith) in
        rw (one_more, fails) refl

-- a piece, before others and the last
pub end_fits-more : (p : List ℕ) (middle : List (List ℕ)) (last value : List ℕ) → end_fits (p ∷ (middle ++ last ∷ [])) value ≡ end_fits_in (middle ++ last ∷ []) (behind p value)
end_fits-more p [] last value = any-behind p last [] value
end_fits-more p (m ∷ middle) last value = any-behind p m (middle ++ last ∷ []) value

-- a piece that stands nowhere
pub end_fits-nowhere : (middle : List (List ℕ)) (i : ℕ) (p last rest : List ℕ) (whole : Bool) → i < length middle → p ≡ get_or middle i p
    → whole ≡ end_fits (drop i middle ++ last ∷ []) rest → behind p rest ≡ None → false ≡ whole
end_fits-nowhere middle i p last rest whole inside is so_far none =
    sym (so_far ∙ (ap (λ pieces. end_fits (pieces ++ last ∷ []) rest) (rest_at middle i p inside is)
    ∙ (end_fits-more p (drop (i + 1) middle) last rest ∙ ap (end_fits_in (drop (i + 1) middle ++ last ∷ [])) none)))

-- a piece at its first place
pub end_fits-passed : (middle : List (List ℕ)) (i : ℕ) (p last rest shorter : List ℕ) (whole : Bool) → i < length middle → p ≡ get_or middle i p
    → whole ≡ end_fits (drop i middle ++ last ∷ []) rest → behind p rest ≡ Some shorter → whole ≡ end_fits (drop (i + 1) middle ++ last ∷ []) shorter
end_fits-passed middle i p last rest shorter whole inside is so_far found =
    so_far ∙ (ap (λ pieces. end_fits (pieces ++ last ∷ []) rest) (rest_at middle i p inside is)
    ∙ (end_fits-more p (drop (i + 1) middle) last rest ∙ ap (end_fits_in (drop (i + 1) middle ++ last ∷ [])) found))

pub behind-here : (p value : List ℕ) → starts_with nat_eq value p ≡ true → behind p value ≡ Some (drop (length p) value)
behind-here p [] starts = rw starts refl
behind-here p (x ∷ value) starts = rw starts refl
