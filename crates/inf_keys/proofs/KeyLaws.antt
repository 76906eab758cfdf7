-- A text has one meaning, and a meaning one text.
use Rattle.std.proofs.Common.{◌≡◌, ℕ, ◌≤◌, Bool, true, false, cond, List, ◌∷◌, ◌++◌, Option, Some, None, option_map, codes, inl, inr, refl, sym, ap, subst, ◌∙◌}
use Rattle.std.specs.Bool.{⊤}
use Rattle.std.specs.Fmt.{decimal}
use Rattle.std.specs.Str.{bytes_eq}
use Rattle.std.proofs.lemmas.Option.{same_Some}
use Rattle.std.proofs.lemmas.Slice.Eq.{bytes_eq-Decides}
use Rattle.inf_keys.specs.declared.fields.Single.{Single}
use Rattle.inf_keys.specs.declared.fields.Single.TheVariants as single
use Rattle.inf_keys.specs.declared.fields.PhaseField.TheVariants as phase_field
use Rattle.inf_keys.specs.declared.key.Owner.{Owner}
use Rattle.inf_keys.specs.declared.key.Owner.TheVariants.{Host, Unit}
use Rattle.inf_keys.specs.declared.key.Part.{Part}
use Rattle.inf_keys.specs.declared.key.Part.TheVariants as part
use Rattle.inf_keys.specs.declared.key.Key.{Key}
use Rattle.inf_keys.specs.declared.reading.Reading.{Reading}
use Rattle.inf_keys.specs.declared.reading.Reading.TheVariants as reading
use Rattle.inf_keys.specs.Cut.{first_word, behind_first}
use Rattle.inf_keys.specs.KeyReading.{row_in, owner_by, owner_in, key_of, owned, reading_of, part_reading, key_reading}
use Rattle.inf_keys.specs.KeyText.{part_text, owner_text, key_text}
use Rattle.inf_keys.specs.Meaning.{has, IsOwner, IsKey, IsSilentPart, IsLeftOutPart, IsSilent, IsLeftOut, Means}
use Rattle.inf_keys.proofs.CutLemmas.{first_word-more, cut_found}
use Rattle.inf_keys.proofs.RowLemmas.{row_again, row_found}
use Rattle.inf_keys.proofs.PartFound.{FoundPart, part_found}
use Rattle.inf_keys.proofs.PartAgain.{IsMeant, found_again}

-- The text doesn't begin as a unit's key does.
abbrev IsHosts : List ℕ → Type 0
IsHosts text = bytes_eq (first_word text) (codes "units") ≡ false

single_is_hosts : (s : Single) → IsHosts (part_text (part.Single s))
single_is_hosts single.Id = refl
single_is_hosts single.Version = refl
single_is_hosts single.Singleton = refl
single_is_hosts single.Filter = refl
single_is_hosts single.UpdateId = refl
single_is_hosts single.UpdateRange = refl
single_is_hosts single.UpdateSeverity = refl
single_is_hosts single.UpdateDescription = refl
single_is_hosts single.TouchpointId = refl
single_is_hosts single.TouchpointVersion = refl

part_is_hosts : (p : Part) → IsHosts (part_text p)
part_is_hosts (part.Single s) = single_is_hosts s
part_is_hosts (part.Property n f) = refl
part_is_hosts (part.Provided n f) = refl
part_is_hosts (part.Required n f) = refl
part_is_hosts (part.Artifact n f) = refl
part_is_hosts (part.Instruction p phase_field.Text) = refl
part_is_hosts (part.Instruction p phase_field.Import) = refl

moved : (text other : List ℕ) → text ≡ other → IsHosts other → IsHosts text
moved text other e h = subst IsHosts (sym e) h

silent_is_hosts : (text : List ℕ) → IsSilentPart text → IsHosts text
silent_is_hosts text (inl e) = moved text _ e refl
silent_is_hosts text (inr (inl (rest, e))) = moved text (codes "metaRequirements." ++ rest) e refl
silent_is_hosts text (inr (inr (inl (rest, e)))) = moved text (codes "licenses." ++ rest) e refl
silent_is_hosts text (inr (inr (inr (rest, e)))) =
    moved text (codes "copyright" ++ rest) e (ap (λ w. bytes_eq w (codes "units")) (first_word-more 99 (codes "opyright" ++ rest) refl))

left_out_is_hosts : (text : List ℕ) → IsLeftOutPart text → IsHosts text
left_out_is_hosts text (inl e) = moved text _ e refl
left_out_is_hosts text (inr (inl (rest, e))) = moved text (codes "hostRequirements." ++ rest) e refl
left_out_is_hosts text (inr (inr (n, small, e))) = moved text _ e refl

found_is_hosts : (text : List ℕ) (r : Reading Part) → FoundPart text r → IsMeant r → IsHosts text
found_is_hosts text (reading.Meaning p) h m = moved text (part_text p) h.1 (part_is_hosts p)
found_is_hosts text reading.Silent h m = silent_is_hosts text h
found_is_hosts text reading.LeftOut h m = left_out_is_hosts text h
found_is_hosts text reading.Unknown h m = absurd m

host_again : (text : List ℕ) → IsHosts text → owner_in text ≡ Some (Host, text)
unfolding owner_in
host_again text h = ap (λ t. owner_by text t (behind_first text)) h ∙ by (behind_first text)
  where
    by : (o : Option (List ℕ)) → owner_by text false o ≡ Some (Host, text)
    by None = refl
    by (Some rest) = refl

abbrev unit_with : ℕ × List ℕ → Owner × List ℕ
unit_with found = (Unit found.0, found.1)

unit_again : (n : ℕ) (text : List ℕ) → n ≤ 999999 → owner_in (codes "units." ++ (decimal n ++ 46 ∷ text)) ≡ Some (Unit n, text)
unfolding owner_in
unit_again n text h = ap (option_map unit_with) (row_again n text h)

-- an owner's part is read as that of this owner
owner_again : (owner : Owner) (text : List ℕ) → IsOwner owner → IsHosts text → key_reading (owner_text owner text) ≡ owned owner (part_reading text)
owner_again Host text h safe = ap reading_of (host_again text safe)
owner_again (Unit n) text h safe = ap reading_of (unit_again n text h)

owner_found : (text : List ℕ) (found : Owner × List ℕ) → owner_in text ≡ Some found → IsOwner found.0 × (text ≡ owner_text found.0 found.1)
unfolding owner_in
owner_found text found h = by (behind_first text) refl (bytes_eq (first_word text) (codes "units")) refl h
  where
    Found : Owner × List ℕ → Type 0
    Found f = IsOwner f.0 × (text ≡ owner_text f.0 f.1)

    row : (rest : List ℕ) → text ≡ codes "units" ++ 46 ∷ rest → (o : Option (ℕ × List ℕ)) → row_in rest ≡ o → option_map unit_with o ≡ Some found → Found found
    row rest is None e k = absurd (cc)
    row rest is (Some (n, part)) e k =
        let is_row = row_found rest n part e in
        let whole : text ≡ owner_text (Unit n) part = is ∙ ap (λ r. codes "units" ++ 46 ∷ r) is_row.1 in
        subst Found (same_Some (Unit n, part) found k) (is_row.0, whole)

    by : (o : Option (List ℕ)) → behind_first text ≡ o → (t : Bool) → bytes_eq (first_word text) (codes "units") ≡ t → owner_by text t o ≡ Some found → Found found
    by None e t f k = subst Found (same_Some (Host, text) found k) (tt, refl)
    by (Some rest) e false f k = subst Found (same_Some (Host, text) found k) (tt, refl)
    by (Some rest) e true f k =
        row rest (cut_found text rest e ∙ ap (λ w. w ++ 46 ∷ rest) ((bytes_eq-Decides (first_word text) (codes "units")).0 f)) (row_in rest) refl k

-- what a reading of a key says of its text
abbrev FoundKey : List ℕ → Reading Key → Type 0
FoundKey text (reading.Meaning key) = IsKey key × (text ≡ key_text key)
FoundKey text reading.Silent = IsSilent text
FoundKey text reading.LeftOut = IsLeftOut text
FoundKey text reading.Unknown = ⊤

owned_found : (text : List ℕ) (owner : Owner) (rest : List ℕ) → IsOwner owner → text ≡ owner_text owner rest → (r : Reading Part) → FoundPart rest r → FoundKey text (owned owner r)
owned_found text owner rest is e (reading.Meaning p) h = by (has owner p) refl
  where
    by : (t : Bool) → has owner p ≡ t → FoundKey text (cond t (reading.Meaning (key_of owner p)) reading.Unknown)
    by true f = (record { owner = is; part = h.0; has = f }, e ∙ ap (owner_text owner) h.1)
    by false f = tt
owned_found text owner rest is e reading.Silent h = (owner, rest, is, e, h)
owned_found text owner rest is e reading.LeftOut h = (owner, rest, is, e, h)
owned_found text owner rest is e reading.Unknown h = tt

key_found : (text : List ℕ) → FoundKey text (key_reading text)
key_found text = by (owner_in text) refl
  where
    by : (o : Option (Owner × List ℕ)) → owner_in text ≡ o → FoundKey text (reading_of o)
    by None e = tt
    by (Some (owner, rest)) e =
        let found = owner_found text (owner, rest) e in
        owned_found text owner rest found.0 found.1 (part_reading rest) (part_found rest)

-- an owner's part with a meaning, read as a key
part_reads : (text : List ℕ) (owner : Owner) (rest : List ℕ) → IsOwner owner → text ≡ owner_text owner rest → (r : Reading Part) → FoundPart rest r → IsMeant r → key_reading text ≡ owned owner r
part_reads text owner rest is e r h m =
    ap key_reading e ∙ owner_again owner rest is (found_is_hosts rest r h m) ∙ ap (owned owner) (found_again rest r h m)

key_again : (text : List ℕ) (r : Reading Key) → FoundKey text r → IsMeant r → key_reading text ≡ r
key_again text (reading.Meaning key) h m =
    part_reads text key.owner (part_text key.part) h.0.owner h.1 (reading.Meaning key.part) (h.0.part, refl) tt
    ∙ ap (λ t. cond t (reading.Meaning key) reading.Unknown) h.0.has
key_again text reading.Silent (owner, rest, is, e, h) m = part_reads text owner rest is e reading.Silent h tt
key_again text reading.LeftOut (owner, rest, is, e, h) m = part_reads text owner rest is e reading.LeftOut h tt
key_again text reading.Unknown h m = absurd m

other : (a b : Reading Key) → a ≡ b → IsMeant b → IsMeant a
other a b e m = subst IsMeant (sym e) m

-- what is read is what the text means
pub means : (text : List ℕ) → Means text (key_reading text)
means text = by (key_reading text) refl (key_found text)
  where
    by : (r : Reading Key) → key_reading text ≡ r → FoundKey text r → Means text r
    by (reading.Meaning key) e h = h
    by reading.Silent e h = h
    by reading.LeftOut e h = h
    by reading.Unknown e h = (
      λ key is same. other reading.Unknown (reading.Meaning key) (sym e ∙ key_again text (reading.Meaning key) (is, same) tt) tt,
      λ silent. other reading.Unknown reading.Silent (sym e ∙ key_again text reading.Silent silent tt) tt,
      λ left_out. other reading.Unknown reading.LeftOut (sym e ∙ key_again text reading.LeftOut left_out tt) tt,
    )

reads : (text : List ℕ) (r : Reading Key) → Means text r → key_reading text ≡ r
reads text (reading.Meaning key) h = key_again text (reading.Meaning key) h tt
reads text reading.Silent h = key_again text reading.Silent h tt
reads text reading.LeftOut h = key_again text reading.LeftOut h tt
reads text reading.Unknown h = by (key_reading text) refl (key_found text)
  where
    by : (r : Reading Key) → key_reading text ≡ r → FoundKey text r → key_reading text ≡ reading.Unknown
    by (reading.Meaning key) e f = absurd (h.0 key f.0 f.1)
    by reading.Silent e f = absurd (h.1 f)
    by reading.LeftOut e f = absurd (h.2 f)
    by reading.Unknown e f = e

-- no text means two things
pub one_meaning : (text : List ℕ) (a b : Reading Key) → Means text a → Means text b → a ≡ b
one_meaning text a b h k = sym (reads text a h) ∙ reads text b k

-- no two keys have one text
pub apart : (a b : Key) → IsKey a → IsKey b → key_text a ≡ key_text b → a ≡ b
apart a b is_a is_b same =
    let e = one_meaning (key_text a) (reading.Meaning a) (reading.Meaning b) (is_a, refl) (is_b, same) in
    cc
