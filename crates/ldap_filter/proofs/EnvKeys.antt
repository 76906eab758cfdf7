-- Keys with small letters for capital ones.
use Rattle.std.proofs.Common.{◌≡◌, ◌≢◌, ◌==◌, ℕ, true, false, true≢false, sym, List, [], ◌∷◌, length, refl, arith}
use Rattle.std.specs.Char.{to_ascii_lowercase}
use Rattle.std.proofs.lemmas.List.{length-map}
use Rattle.std.proofs.lemmas.List.Elements.{All-map, All-weaker}
use Rattle.std.proofs.lemmas.Bool.Decides.{nat_tests}
use Rattle.ldap_filter.specs.EnvPairs.{IsEnvKey, IsEnvPair, is_key_byte, lowered}

lower_twice : (b : ℕ) → to_ascii_lowercase (to_ascii_lowercase b) ≡ to_ascii_lowercase b
lower_twice b = grind (arith, nat_tests)

lower_key_byte : (b : ℕ) → is_key_byte b ≡ true → is_key_byte (to_ascii_lowercase b) ≡ true
lower_key_byte b h = grind (arith, nat_tests)

pub lowered_twice : (key : List ℕ) → lowered (lowered key) ≡ lowered key
lowered_twice [] = refl
lowered_twice (b ∷ key) = let first = lower_twice b in let rest = lowered_twice key in cc

not_nil : (key : List ℕ) → key ≢ [] → lowered key ≢ []
not_nil [] some e = some refl
not_nil (b ∷ key) some e = absurd (cc)

IsEnvKey-lowered : (key : List ℕ) → IsEnvKey key → IsEnvKey (lowered key)
IsEnvKey-lowered key form = record {
  some = not_nil key form.some;
  short = rw (length-map key to_ascii_lowercase) form.short;
  each = All-map (λ b. is_key_byte b ≡ true) to_ascii_lowercase key (All-weaker (λ b. is_key_byte b ≡ true) (λ b. is_key_byte (to_ascii_lowercase b) ≡ true) lower_key_byte key form.each);
}

pub IsEnvPair-lowered : (key value : List ℕ) → IsEnvKey key → value ≢ [] → IsEnvPair (lowered key, value)
IsEnvPair-lowered key value form some = record { key = IsEnvKey-lowered key form; low = lowered_twice key; value = some }

pub not_empty : (value : List ℕ) → false ≡ (length value == 0) → value ≢ []
not_empty [] e same = true≢false (sym e)
not_empty (b ∷ value) e same = cc
