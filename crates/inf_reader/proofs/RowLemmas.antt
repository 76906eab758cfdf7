-- Facts on walks over rows.
use Rattle.std.proofs.Common.{◌≡◌, ℕ, ◌+◌, ◌<◌, ◌≤◌, List, [], ◌∷◌, ◌++◌, length, drop, get_or, Result, Ok, Err, refl, ap, ◌∙◌, append-nil}
use Rattle.std.proofs.lemmas.List.{drop_more, drop_all}
use Rattle.inf_reader.specs.declared.fault.InfRefusal.{InfRefusal}
use Rattle.inf_reader.specs.Gives.{◌>>=◌}
use Rattle.inf_reader.specs.UnitParts.{traverse}
use Rattle.inf_reader.proofs.Steps.{with_front, with_front-more}

module _ {X : Type 0} (f : ℕ → Result X InfRefusal) (found : List X) (rows : List ℕ) (i : ℕ) where
  at_row : i < length rows → traverse f (drop i rows) ≡ (f (get_or rows i 0) >>= λ x. traverse f (drop (i + 1) rows) >>= λ xs. Ok (x ∷ xs))
  unfolding traverse
  at_row inside = rw (drop_more rows i 0 inside) refl

  pub row_taken : (x : X) → i < length rows → f (get_or rows i 0) ≡ Ok x → with_front found (traverse f (drop i rows)) ≡ with_front (found ++ x ∷ []) (traverse f (drop (i + 1) rows))
  row_taken x inside read =
      ap (with_front found) (at_row inside ∙ ap (λ r. r >>= λ x. traverse f (drop (i + 1) rows) >>= λ xs. Ok (x ∷ xs)) read)
      ∙ with_front-more found (x ∷ []) (traverse f (drop (i + 1) rows))

  pub row_refused : (r : InfRefusal) → i < length rows → f (get_or rows i 0) ≡ Err r → with_front found (traverse f (drop i rows)) ≡ Err r
  row_refused r inside read =
      ap (with_front found) (at_row inside ∙ ap (λ r. r >>= λ x. traverse f (drop (i + 1) rows) >>= λ xs. Ok (x ∷ xs)) read)

  pub rows-none : length rows ≤ i → with_front found (traverse f (drop i rows)) ≡ Ok found
  unfolding traverse
  rows-none past = rw (drop_all i rows past) (ap Ok (append-nil found))
