-- Facts on words with dots between them.
use Rattle.std.proofs.Common.{◌≡◌, ℕ, ◌==◌, Bool, true, false, cond, not, List, [], ◌∷◌, ◌++◌, length, drop, Some, None, arith, refl, sym, ap, ◌∙◌}
use Rattle.std.specs.Char.{is_ascii_digit}
use Rattle.std.specs.Str.{all_ascii_digits}
use Rattle.std.proofs.lemmas.Bool.{eqb-true, and_parts}
use Rattle.std.proofs.lemmas.Bool.Decides.{nat_tests}
use Rattle.std.proofs.lemmas.List.Sums.{take_while-cons}
use Rattle.std.proofs.lemmas.Option.{same_Some}
use Rattle.inf_keys.specs.Cut.{first_word, without_dot, behind_first}

pub first_word-more : (b : ℕ) (text : List ℕ) → (b == 46) ≡ false → first_word (b ∷ text) ≡ b ∷ first_word text
first_word-more b text h = take_while-cons (λ x. not (x == 46)) b text ∙ ap (λ t. cond (not t) (b ∷ first_word text) []) h

first_word-dot : (b : ℕ) (text : List ℕ) → (b == 46) ≡ true → first_word (b ∷ text) ≡ []
first_word-dot b text h = take_while-cons (λ x. not (x == 46)) b text ∙ ap (λ t. cond (not t) (b ∷ first_word text) []) h

behind_first-more : (b : ℕ) (text : List ℕ) → (b == 46) ≡ false → behind_first (b ∷ text) ≡ behind_first text
behind_first-more b text h = ap (λ (w : List ℕ). without_dot (drop (length w) (b ∷ text))) (first_word-more b text h)

behind_first-dot : (b : ℕ) (text : List ℕ) → (b == 46) ≡ true → behind_first (b ∷ text) ≡ Some text
behind_first-dot b text h = ap (λ (w : List ℕ). without_dot (drop (length w) (b ∷ text))) (first_word-dot b text h)

-- a text with a dot is its first word, the dot, and what stands behind it
pub cut_found : (text rest : List ℕ) → behind_first text ≡ Some rest → text ≡ first_word text ++ 46 ∷ rest
cut_found [] rest h = absurd (cc)
cut_found (b ∷ text) rest h = by (b == 46) refl (cut_found text rest)
  where
    by : (t : Bool) → (b == 46) ≡ t → (behind_first text ≡ Some rest → text ≡ first_word text ++ 46 ∷ rest) → b ∷ text ≡ first_word (b ∷ text) ++ 46 ∷ rest
    by true e more =
        let same : text ≡ rest = same_Some text rest (sym (behind_first-dot b text e) ∙ h) in
        let dot : b ≡ 46 = eqb-true b 46 e in
        (λ i. dot i ∷ same i) ∙ ap (λ w. w ++ 46 ∷ rest) (sym (first_word-dot b text e))
    by false e more =
        ap (λ t. b ∷ t) (more (sym (behind_first-more b text e) ∙ h)) ∙ ap (λ w. w ++ 46 ∷ rest) (sym (first_word-more b text e))

-- a text without a dot is its first word
pub uncut : (text : List ℕ) → behind_first text ≡ None → text ≡ first_word text
uncut [] h = refl
uncut (b ∷ text) h = by (b == 46) refl (uncut text)
  where
    by : (t : Bool) → (b == 46) ≡ t → (behind_first text ≡ None → text ≡ first_word text) → b ∷ text ≡ first_word (b ∷ text)
    by true e more = let dot = behind_first-dot b text e in absurd (cc)
    by false e more = ap (λ t. b ∷ t) (more (sym (behind_first-more b text e) ∙ h)) ∙ sym (first_word-more b text e)

no_dot : (b : ℕ) → is_ascii_digit b ≡ true → (b == 46) ≡ false
no_dot b h = grind (arith, nat_tests)

-- digits before a dot are a first word
pub cut_digits : (digits rest : List ℕ) → all_ascii_digits digits ≡ true → (first_word (digits ++ 46 ∷ rest) ≡ digits) × (behind_first (digits ++ 46 ∷ rest) ≡ Some rest)
cut_digits [] rest h = (first_word-dot 46 rest refl, behind_first-dot 46 rest refl)
cut_digits (b ∷ digits) rest h =
    let parts = and_parts (is_ascii_digit b) (all_ascii_digits digits) h in
    let other = no_dot b parts.0 in
    let more = cut_digits digits rest parts.1 in
    (first_word-more b (digits ++ 46 ∷ rest) other ∙ ap (λ w. b ∷ w) more.0, behind_first-more b (digits ++ 46 ∷ rest) other ∙ more.1)
