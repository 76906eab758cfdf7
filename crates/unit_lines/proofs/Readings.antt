-- What is read of a canonical text.
use Rattle.std.proofs.Common.{◌≡◌, ◌≢◌, ◌⊎◌, inl, inr, List, ℕ, None, Result, Ok, Err, ap, ◌∙◌, subst}
use Rattle.unit_lines.specs.Reading.{IsReading}

module _ {V F : Type 0} (Denotes : List ℕ → V → Type 0) (Form : V → Type 0) (spelling : V → List ℕ) (spelled : (v : V) → Form v → Denotes (spelling v) v)
    (want : F) (text : List ℕ) (r : Result V F) (only : (v : V) → Denotes text v → (r ≡ Ok v) ⊎ (r ≡ Err want)) where
  -- A text that is refused is that of no value.
  pub refused : (fault : F) → r ≡ Err fault → fault ≢ want → IsReading Form spelling text None
  refused fault is other v form same = elim (only v (subst (λ t. Denotes t v) same (spelled v form))) [
    | inl ok ↦ absurd (cc)
    | inr err ↦ other (cc)
  ]

  -- Nor is one whose value has another text.
  pub other_text : (v : V) → r ≡ Ok v → spelling v ≢ text → IsReading Form spelling text None
  other_text v is differs w form same = elim (only w (subst (λ t. Denotes t w) same (spelled w form))) [
    | inl ok ↦ let equal : v ≡ w = cc in differs (ap spelling equal ∙ same)
    | inr err ↦ absurd (cc)
  ]
