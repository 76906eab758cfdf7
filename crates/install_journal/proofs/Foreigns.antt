-- Where there is no damage, the map is tidy.
use Rattle.std.proofs.Common.{◌≡◌, ◌≢◌, ℕ, List, [], ◌∷◌, ◌++◌, Some, None, inl, inr, refl, sym, ◌∙◌, ap, codes}
use Rattle.std.specs.Prelude.{IsSome, is_some}
use Rattle.std.proofs.lemmas.Bool.{false≢true}
use Rattle.folder_core.specs.Folder.{Map, IsFormed}
use Rattle.folder_core.specs.declared.node.Node.TheVariants.{Dir}
use Rattle.install_journal.specs.Firsts.{Finds}
use Rattle.install_journal.specs.Preparing.{IsDamage, journal_path}
use Rattle.install_journal.specs.Tidy.{IsForeign}
use Rattle.install_journal.proofs.Clearings.{none_or}
use Rattle.install_journal.proofs.Closings.{nothing_below_other}
use Rattle.install_journal.proofs.Counting.{same_bytes}

module _ (m : Map) (formed : IsFormed m) (none : Finds (IsDamage m) None) (path : List (List ℕ)) (foreign : IsForeign path) where
  below_gate : (rest : List (List ℕ)) → path ≡ codes ".p2" ∷ codes "undo" ∷ rest → IsSome (m path) → ⊥
  below_gate [] at some = foreign.not_gate at
  below_gate (next ∷ rest) at some = none path (record { stands = some; place = inr (inl (next, rest, at)) })

  below_entries : (rest : List (List ℕ)) → path ≡ codes ".p2" ∷ codes "e" ∷ rest → IsSome (m path) → ⊥
  below_entries [] at some = foreign.not_entries at
  below_entries (last ∷ []) at some = foreign.not_entry last at
  below_entries (name ∷ next ∷ rest) at some = none path (record { stands = some; place = inr (inr (name, (next, rest, at))) })

  -- a child of `.p2` that isn't the journal's, or something below it
  below_other : (name : List ℕ) (rest : List (List ℕ)) → path ≡ codes ".p2" ∷ name ∷ rest → name ≢ codes "undo" → name ≢ codes "e" → IsSome (m path) → ⊥
  below_other name [] at undo e some = none path (record { stands = some; place = inl (name, (at, (undo, e))) })
  below_other name (next ∷ rest) at undo e some =
      let child : List (List ℕ) = journal_path ++ name ∷ [] in
      let no_directory : ¬ (m child ≡ Some Dir) = λ dir. none child (record { stands = ap is_some dir; place = inl (name, (refl, (undo, e))) }) in
      let gone : m path ≡ None = ap m at ∙ nothing_below_other m rest child next formed no_directory in
      false≢true (ap is_some (sym gone) ∙ some)

  pub undamaged_tidy : m path ≡ None
  undamaged_tidy = none_or (m path) (λ some. elim (same_bytes foreign.name (codes "undo")) [
    | inl undo ↦ below_gate foreign.rest (foreign.below ∙ ap (λ (n : List ℕ). codes ".p2" ∷ n ∷ foreign.rest) undo) some
    | inr not_undo ↦ elim (same_bytes foreign.name (codes "e")) [
      | inl e ↦ below_entries foreign.rest (foreign.below ∙ ap (λ (n : List ℕ). codes ".p2" ∷ n ∷ foreign.rest) e) some
      | inr not_e ↦ below_other foreign.name foreign.rest foreign.below not_undo not_e some
    ]
  ])
