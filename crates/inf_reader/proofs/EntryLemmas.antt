-- Facts on the entries of pairs.
use Rattle.std.proofs.Common.{◌≡◌, ℕ, ◌+◌, ◌<◌, ◌≤◌, List, ◌++◌, length, drop, Option, Some, option_to_list, Result, Ok, Err, refl, ap, ◌∙◌, append-nil}
use Rattle.std.specs.List.{slice_get}
use Rattle.std.proofs.lemmas.List.{drop_all}
use Rattle.unit_model.specs.declared.name.UnitName.{UnitName}
use Rattle.inf_reader.specs.declared.entries.Entry.{Entry}
use Rattle.inf_reader.specs.declared.fault.InfRefusal.{InfRefusal}
use Rattle.inf_reader.specs.Gives.{◌>>=◌}
use Rattle.inf_reader.specs.Entries.{Pair, Meanings, entry_of, entries_of}
use Rattle.inf_reader.proofs.Steps.{with_front, with_front-more, drop-got}

module _ (means : Meanings) (host : Option UnitName) (found : List Entry) (pairs : List Pair) (i : ℕ) (pair : Pair) where
  abbrev rest : Result (List Entry) InfRefusal
  rest = entries_of means host (drop (i + 1) pairs)

  at_pair : i < length pairs → Some pair ≡ slice_get pairs i → entries_of means host (drop i pairs) ≡ (entry_of means host pair >>= λ entry. rest >>= λ entries. Ok (option_to_list entry ++ entries))
  unfolding entries_of
  at_pair inside got = rw (drop-got pairs i pair inside got) refl

  pub entry_taken : (entry : Option Entry) → i < length pairs → Some pair ≡ slice_get pairs i → entry_of means host pair ≡ Ok entry
      → with_front found (entries_of means host (drop i pairs)) ≡ with_front (found ++ option_to_list entry) rest
  entry_taken entry inside got read =
      ap (with_front found) (at_pair inside got ∙ ap (λ r. r >>= λ entry. rest >>= λ entries. Ok (option_to_list entry ++ entries)) read)
      ∙ with_front-more found (option_to_list entry) rest

  pub entry_refused : (r : InfRefusal) → i < length pairs → Some pair ≡ slice_get pairs i → entry_of means host pair ≡ Err r
      → with_front found (entries_of means host (drop i pairs)) ≡ Err r
  entry_refused r inside got read =
      ap (with_front found) (at_pair inside got ∙ ap (λ r. r >>= λ entry. rest >>= λ entries. Ok (option_to_list entry ++ entries)) read)

pub entries_of-none : (means : Meanings) (host : Option UnitName) (found : List Entry) (pairs : List Pair) (i : ℕ) → length pairs ≤ i → with_front found (entries_of means host (drop i pairs)) ≡ Ok found
unfolding entries_of
entries_of-none means host found pairs i past = rw (drop_all i pairs past) (ap Ok (append-nil found))
