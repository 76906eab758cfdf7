-- Writing values, pieces and filters.
use Rattle.std.proofs.Common.{◌≡◌, ℕ, suc, ◌<◌, ◌≤◌, ◌⊎◌, inl, inr, ◌==◌, ◌||◌, true, false, List, [], ◌∷◌, ◌++◌, length, get_or, encode_utf8, refl, ap, sym, ◌∙◌, arith, append_assoc, append-nil}
use Rattle.std.proofs.lemmas.Grind.{flat_map-append}
use Rattle.std.proofs.lemmas.Str.{encode_ascii, inside_one}
use Rattle.std.proofs.lemmas.Bool.Decides.{nat_tests}
use Rattle.std.proofs.lemmas.Bool.{cases_lt}
use Rattle.ldap_filter.specs.FilterText.{is_special, escape_byte, escaped}

-- bytes from 128 on stand for themselves
escaped-high : (bytes : List ℕ) → ((k : ℕ) → k < length bytes → 128 ≤ get_or bytes k 0) → escaped bytes ≡ bytes
escaped-high [] high = refl
escaped-high (b ∷ bytes) high =
    let first = high 0 (omega arith) in
    let plain : (is_special b || b == 42) ≡ false = grind (arith, nat_tests) in
    let rest = escaped-high bytes (λ k inside. high (suc k) (omega arith)) in
    rw plain (ap (λ r. b ∷ r) rest)

encode-high : (c : ℕ) → 128 ≤ c → (k : ℕ) → k < length (encode_utf8 c) → 128 ≤ get_or (encode_utf8 c) k 0
encode-high c high k inside = by_size (cases_lt (get_or (encode_utf8 c) k 0) 128)
  where
    by_size : (get_or (encode_utf8 c) k 0 < 128) ⊎ (128 ≤ get_or (encode_utf8 c) k 0) → 128 ≤ get_or (encode_utf8 c) k 0
    by_size (inl low) = let same : c ≡ get_or (encode_utf8 c) k 0 = inside_one c [] (encode_utf8 c) k (sym (append-nil (encode_utf8 c))) inside low in absurd (omega (arith, same))
    by_size (inr high') = high'

pub escaped-special : (c : ℕ) → (is_special c || c == 42) ≡ true → escaped (encode_utf8 c) ≡ 92 ∷ encode_utf8 c
escaped-special c special =
    let low : c < 128 = grind (arith, nat_tests) in
    rw (encode_ascii c low, special) refl

pub escaped-plain : (c : ℕ) → (is_special c || c == 42) ≡ false → escaped (encode_utf8 c) ≡ encode_utf8 c
escaped-plain c plain = by_size (cases_lt c 128)
  where
    by_size : (c < 128) ⊎ (128 ≤ c) → escaped (encode_utf8 c) ≡ encode_utf8 c
    by_size (inl low) = rw (encode_ascii c low, plain) refl
    by_size (inr high) = escaped-high (encode_utf8 c) (encode-high c high)

-- one more character is added
pub escaped-step : (text old added rest value shorter : List ℕ) (c : ℕ) → text ++ escaped rest ≡ old ++ value → rest ≡ encode_utf8 c ++ shorter → added ≡ text ++ escaped (encode_utf8 c) → added ++ escaped shorter ≡ old ++ value
escaped-step text old added rest value shorter c so_far next more =
    rw more (append_assoc text (escaped (encode_utf8 c)) (escaped shorter) ∙ (ap (λ r. text ++ r) (sym (flat_map-append escape_byte (encode_utf8 c) shorter) ∙ ap escaped (sym next)) ∙ so_far))
