-- Facts on the parts of a piece.
use Rattle.std.proofs.Common.{◌≡◌, ℕ, ◌+◌, ◌<◌, ◌≤◌, List, [], ◌∷◌, ◌++◌, length, drop, get_or, Bool, true, false, cond, Option, Some, None, option_map, option_and_then, Bor, refl, sym, ap, ◌∙◌, append_assoc, append-nil}
use Rattle.std.proofs.lemmas.List.{drop_more, drop_all, map-append}
use Rattle.std.specs.Str.{IsUtf8, is_utf8}
use Rattle.std.proofs.lemmas.Str.{is_utf8-from_IsUtf8, IsUtf8-from_is_utf8}
use Rattle.instr_text.specs.Cut.{seen}
use Rattle.instr_text.specs.declared.piece.Part.{Part as Read}
use Rattle.instr_text.specs.Piece.{Part, part_of, parts_of, part_seen, parts_seen, written_piece, piece_of}

-- the parts that are read, with more in front of them
abbrev pub with_parts : List Part → Option (List Part) → Option (List Part)
with_parts front parts = option_map (λ more. front ++ more) parts

with_parts-more : (front : List Part) (part : Part) (parts : Option (List Part))
    → with_parts front (option_map (λ ps. part ∷ ps) parts) ≡ with_parts (front ++ part ∷ []) parts
with_parts-more front part None = refl
with_parts-more front part (Some ps) = ap Some (sym (append_assoc front (part ∷ []) ps))

module _ (found : List Part) (texts : List (Bor (List ℕ))) (i : ℕ) (d : Bor (List ℕ)) where
  abbrev rest : Option (List Part)
  rest = parts_of (seen (drop (i + 1) texts))

  at_text : i < length texts → parts_of (seen (drop i texts)) ≡ option_and_then (λ part. option_map (λ ps. part ∷ ps) rest) (part_of (get_or texts i d).now)
  unfolding parts_of
  at_text inside = rw (drop_more texts i d inside) refl

  pub part_taken : (part : Part) → i < length texts → Some part ≡ part_of (get_or texts i d).now
      → with_parts found (parts_of (seen (drop i texts))) ≡ with_parts (found ++ part ∷ []) rest
  part_taken part inside read =
      ap (with_parts found) (at_text inside ∙ ap (λ r. option_and_then (λ p. option_map (λ ps. p ∷ ps) rest) r) (sym read))
      ∙ with_parts-more found part rest

  pub part_refused : i < length texts → None ≡ part_of (get_or texts i d).now
      → with_parts found (parts_of (seen (drop i texts))) ≡ None
  part_refused inside read =
      ap (with_parts found) (at_text inside ∙ ap (λ r. option_and_then (λ p. option_map (λ ps. p ∷ ps) rest) r) (sym read))

pub parts_of-none : (found : List Part) (texts : List (Bor (List ℕ))) (i : ℕ) → length texts ≤ i → with_parts found (parts_of (seen (drop i texts))) ≡ Some found
unfolding parts_of
parts_of-none found texts i past = rw (drop_all i texts past) (ap Some (append-nil found))

module _ (texts : List (Bor (List ℕ))) (i : ℕ) (d : Bor (List ℕ)) (whole : Option (List Part)) where
  pub part_pushed : (found new : List Read) (part : Read) → with_parts (parts_seen found) (parts_of (seen (drop i texts))) ≡ whole → i < length texts
      → Some (part_seen part) ≡ part_of (get_or texts i d).now → new ≡ found ++ part ∷ [] → with_parts (parts_seen new) (parts_of (seen (drop (i + 1) texts))) ≡ whole
  part_pushed found new part so_far inside read pushed =
      let parts : parts_seen new ≡ parts_seen found ++ part_seen part ∷ [] = ap parts_seen pushed ∙ map-append part_seen found (part ∷ []) in
      ap (λ ps. with_parts ps (parts_of (seen (drop (i + 1) texts)))) parts
      ∙ (sym (part_taken (parts_seen found) texts i d (part_seen part) inside read) ∙ so_far)

  pub part_failed : (found : List Read) → with_parts (parts_seen found) (parts_of (seen (drop i texts))) ≡ whole → i < length texts
      → None ≡ part_of (get_or texts i d).now → None ≡ whole
  part_failed found so_far inside read = sym (part_refused (parts_seen found) texts i d inside read) ∙ so_far

pub piece_of-utf8 : (bytes text : List ℕ) → text ≡ bytes → IsUtf8 bytes → written_piece text ≡ piece_of bytes
unfolding piece_of
piece_of-utf8 bytes text same utf8 = let yes : is_utf8 bytes ≡ true = is_utf8-from_IsUtf8 bytes utf8 in rw yes (ap written_piece same)

pub piece_of-other : (bytes : List ℕ) → ¬ (IsUtf8 bytes) → None ≡ piece_of bytes
unfolding piece_of
piece_of-other bytes other = by (is_utf8 bytes) refl
  where
    by : (t : Bool) → is_utf8 bytes ≡ t → None ≡ cond t (written_piece bytes) None
    by true e = absurd (other (IsUtf8-from_is_utf8 bytes e))
    by false e = refl
