-- What is read of a part is written so.
use Rattle.std.proofs.Common.{◌≡◌, ℕ, ◌≤◌, nat_eq, Bool, true, false, cond, List, ◌∷◌, ◌++◌, drop, Option, Some, None, option_map, option_and_then, codes, inl, inr, refl, ap, subst, ◌∙◌}
use Rattle.std.specs.Bool.{⊤}
use Rattle.std.specs.List.{starts_with}
use Rattle.std.specs.Str.{bytes_eq}
use Rattle.std.proofs.lemmas.Bool.Decides.{Decides-eqb}
use Rattle.std.proofs.lemmas.Option.{same_Some, some_pair_parts}
use Rattle.std.proofs.lemmas.Slice.Eq.{bytes_eq-Decides, starts_is}
use Rattle.case_table.specs.Rows.{beside}
use Rattle.inf_keys.specs.declared.fields.Single.{Single}
use Rattle.inf_keys.specs.declared.fields.Phase.{Phase}
use Rattle.inf_keys.specs.declared.fields.PhaseField.TheVariants as phase_field
use Rattle.inf_keys.specs.declared.key.Part.{Part}
use Rattle.inf_keys.specs.declared.key.Part.TheVariants as part
use Rattle.inf_keys.specs.declared.reading.Reading.{Reading}
use Rattle.inf_keys.specs.declared.reading.Reading.TheVariants as reading
use Rattle.inf_keys.specs.declared.words.Word.{Word}
use Rattle.inf_keys.specs.declared.words.Word.TheVariants as word
use Rattle.inf_keys.specs.Cut.{first_word, behind_first}
use Rattle.inf_keys.specs.KeyReading.{row_in, known, field_of_row, required_field_of, phase_field_in, instruction_of, word_reading, word_in, or_known, lone_reading, reading_by, part_reading}
use Rattle.inf_keys.specs.KeyText.{row_text, part_text}
use Rattle.inf_keys.specs.Meaning.{IsPart, IsSilentPart, IsLeftOutPart}
use Rattle.inf_keys.specs.NameTables.{named, word_name, words, every_word, singles, every_single, passed, every_property_field, every_provided_field, every_required_field, every_artifact_field, phases, every_phase}
use Rattle.inf_keys.specs.Names.{single_name, property_name, provided_name, required_name, artifact_name, phase_name}
use Rattle.inf_keys.proofs.CutLemmas.{cut_found, uncut}
use Rattle.inf_keys.proofs.RowLemmas.{row_found, beside_found}

-- what a reading of a part says of its text
abbrev pub FoundPart : List ℕ → Reading Part → Type 0
FoundPart text (reading.Meaning p) = IsPart p × (text ≡ part_text p)
FoundPart text reading.Silent = IsSilentPart text
FoundPart text reading.LeftOut = IsLeftOutPart text
FoundPart text reading.Unknown = ⊤

-- a kind of rows, in a text that begins with its word
module _ {F : Type 0} (make : ℕ → F → Part) (begin : List ℕ) (name : F → List ℕ) (every : List F) (text : List ℕ)
    (made : (n : ℕ) (f : F) → n ≤ 999999 → text ≡ row_text begin n (name f) → FoundPart text (reading.Meaning (make n f))) where
  field_found : (n : ℕ) (field : List ℕ) → n ≤ 999999 → text ≡ row_text begin n field → FoundPart text (known (field_of_row make (named name every) (Some (n, field))))
  field_found n field small e = by (beside (named name every) field) refl
    where
      by : (o : Option F) → beside (named name every) field ≡ o → FoundPart text (known (option_map (make n) o))
      by None f = tt
      by (Some x) f = made n x small (e ∙ ap (row_text begin n) (beside_found name every field x f))

  row_part_found : (rest : List ℕ) → text ≡ begin ++ 46 ∷ rest → FoundPart text (known (field_of_row make (named name every) (row_in rest)))
  row_part_found rest e = by (row_in rest) refl
    where
      by : (o : Option (ℕ × List ℕ)) → row_in rest ≡ o → FoundPart text (known (field_of_row make (named name every) o))
      by None f = tt
      by (Some (n, field)) f =
          let row = row_found rest n field f in
          field_found n field row.0 (e ∙ ap (λ r. begin ++ 46 ∷ r) row.1)

required_found : (text rest : List ℕ) → text ≡ codes "requires" ++ 46 ∷ rest → FoundPart text (required_field_of (row_in rest))
required_found text rest e = by (row_in rest) refl
  where
    field : (n : ℕ) (last : List ℕ) → n ≤ 999999 → text ≡ row_text (codes "requires") n last → (t : Bool) → bytes_eq last (codes "matchExp") ≡ t
        → FoundPart text (cond t reading.LeftOut (known (field_of_row part.Required (named required_name every_required_field) (Some (n, last)))))
    field n last small is true f = inr (inr (n, small, is ∙ ap (row_text (codes "requires") n) ((bytes_eq-Decides last (codes "matchExp")).0 f)))
    field n last small is false f = field_found part.Required (codes "requires") required_name every_required_field text (λ m x h k. (h, k)) n last small is

    by : (o : Option (ℕ × List ℕ)) → row_in rest ≡ o → FoundPart text (required_field_of o)
    by None f = tt
    by (Some (n, last)) f =
        let row = row_found rest n last f in
        field n last row.0 (e ∙ ap (λ r. codes "requires" ++ 46 ∷ r) row.1) (bytes_eq last (codes "matchExp")) refl

instruction_found : (text rest : List ℕ) → text ≡ codes "instructions" ++ 46 ∷ rest
    → FoundPart text (known (instruction_of (beside phases (first_word rest)) (phase_field_in (behind_first rest))))
instruction_found text rest e = by (beside phases (first_word rest)) refl (behind_first rest) refl
  where
    import_ : (p : Phase) (last : List ℕ) → first_word rest ≡ phase_name p → behind_first rest ≡ Some last → (t : Bool) → bytes_eq last (codes "import") ≡ t
        → FoundPart text (known (option_map (part.Instruction p) (cond t (Some phase_field.Import) None)))
    import_ p last is f true g =
        let last_is = (bytes_eq-Decides last (codes "import")).0 g in
        (tt, e ∙ ap (λ r. codes "instructions" ++ 46 ∷ r) (cut_found rest last f ∙ (λ i. is i ++ 46 ∷ last_is i)))
    import_ p last is f false g = tt

    by : (o : Option Phase) → beside phases (first_word rest) ≡ o → (l : Option (List ℕ)) → behind_first rest ≡ l → FoundPart text (known (instruction_of o (phase_field_in l)))
    by None g l f = tt
    by (Some p) g None f =
        (tt, e ∙ ap (λ r. codes "instructions" ++ 46 ∷ r) (uncut rest f ∙ beside_found phase_name every_phase (first_word rest) p g))
    by (Some p) g (Some last) f = import_ p last (beside_found phase_name every_phase (first_word rest) p g) f (bytes_eq last (codes "import")) refl

word_found : (w : Word) (text rest : List ℕ) → text ≡ word_name w ++ 46 ∷ rest → FoundPart text (word_reading w rest)
word_found word.Properties text rest e = row_part_found part.Property (codes "properties") property_name every_property_field text (λ n f h k. (h, k)) rest e
word_found word.Provides text rest e = row_part_found part.Provided (codes "provides") provided_name every_provided_field text (λ n f h k. (h, k)) rest e
word_found word.Requires text rest e = required_found text rest e
word_found word.Artifacts text rest e = row_part_found part.Artifact (codes "artifacts") artifact_name every_artifact_field text (λ n f h k. (h, k)) rest e
word_found word.Instructions text rest e = instruction_found text rest e
word_found word.MetaRequirements text rest e = inr (inl (rest, e))
word_found word.Licenses text rest e = inr (inr (inl (rest, e)))
word_found word.HostRequirements text rest e = inr (inl (rest, e))

word_in_found : (text : List ℕ) (w : Word) (rest : List ℕ) → word_in text ≡ Some (w, rest) → text ≡ word_name w ++ 46 ∷ rest
unfolding word_in
word_in_found text w rest h = by (behind_first text) refl h
  where
    at : (r : List ℕ) (o : Option Word) → beside words (first_word text) ≡ o → behind_first text ≡ Some r → option_map {U = Word × List ℕ} (λ v. (v, r)) o ≡ Some (w, rest) → text ≡ word_name w ++ 46 ∷ rest
    at r None f e k = absurd (cc)
    at r (Some v) f e k =
        let parts = some_pair_parts v w r rest k in
        let word = beside_found word_name every_word (first_word text) v f ∙ ap word_name parts.0 in
        cut_found text r e ∙ (λ i. word i ++ 46 ∷ parts.1 i)

    by : (o : Option (List ℕ)) → behind_first text ≡ o → option_and_then (λ r. option_map {U = Word × List ℕ} (λ v. (v, r)) (beside words (first_word text))) o ≡ Some (w, rest) → text ≡ word_name w ++ 46 ∷ rest
    by None e k = absurd (cc)
    by (Some r) e k = at r (beside words (first_word text)) refl e k

passed_found : (text : List ℕ) (r : Reading Part) → beside passed text ≡ Some r → FoundPart text r
passed_found text r h = by (bytes_eq text (codes "advice.version")) refl (bytes_eq text (codes "update.matchExp")) refl h
  where
    by : (t : Bool) → bytes_eq text (codes "advice.version") ≡ t → (u : Bool) → bytes_eq text (codes "update.matchExp") ≡ u
        → cond t (Some reading.Silent) (cond u (Some reading.LeftOut) None) ≡ Some r → FoundPart text r
    by true e u f k = subst (FoundPart text) (same_Some reading.Silent r k) (inl ((bytes_eq-Decides text (codes "advice.version")).0 e))
    by false e true f k = subst (FoundPart text) (same_Some reading.LeftOut r k) (inl ((bytes_eq-Decides text (codes "update.matchExp")).0 f))
    by false e false f k = absurd (cc)

lone_found : (text : List ℕ) → FoundPart text (lone_reading text)
unfolding lone_reading
lone_found text = by (beside passed text) refl
  where
    single_found : (o : Option Single) → beside singles text ≡ o → FoundPart text (known (option_map part.Single o))
    single_found None e = tt
    single_found (Some s) e = (tt, beside_found single_name every_single text s e)

    by : (o : Option (Reading Part)) → beside passed text ≡ o → FoundPart text (or_known o (option_map part.Single (beside singles text)))
    by None e = single_found (beside singles text) refl
    by (Some r) e = passed_found text r e

pub part_found : (text : List ℕ) → FoundPart text (part_reading text)
unfolding part_reading
part_found text = by (starts_with nat_eq text (codes "copyright")) refl
  where
    words_found : (o : Option (Word × List ℕ)) → word_in text ≡ o → FoundPart text (reading_by text o)
    words_found None e = lone_found text
    words_found (Some (w, rest)) e = word_found w text rest (word_in_found text w rest e)

    by : (t : Bool) → starts_with nat_eq text (codes "copyright") ≡ t → FoundPart text (cond t reading.Silent (reading_by text (word_in text)))
    by true e = inr (inr (inr (drop 9 text, (starts_is Decides-eqb text (codes "copyright") _ refl).0 e)))
    by false e = words_found (word_in text) refl
