-- Fact on truth values.
use Rattle.std.proofs.Common.{◌≡◌, ◌↔◌, ℕ, Bool, true, false, IsTrue, List, map, codes, refl, sym}
use Rattle.std.specs.Char.{to_ascii_lowercase}
use Rattle.std.proofs.lemmas.Bool.{false≢true}
use Rattle.std.proofs.lemmas.Slice.Eq.{bytes_eq-Decides}
use Rattle.inf_values.specs.Values.{is_true}

decided : (b : Bool) → (b ≡ true → ⊥) → b ≡ false
decided true h = absurd (h refl)
decided false h = refl

pub is_true-same : (b : Bool) (text : List ℕ) → (IsTrue b ↔ (map to_ascii_lowercase text ≡ map to_ascii_lowercase (codes "true"))) → b ≡ is_true text
unfolding is_true
is_true-same true text h = sym ((bytes_eq-Decides (map to_ascii_lowercase text) (codes "true")).1 (h.0 refl))
is_true-same false text h = sym (decided _ (λ e. false≢true (h.1 ((bytes_eq-Decides (map to_ascii_lowercase text) (codes "true")).0 e))))
