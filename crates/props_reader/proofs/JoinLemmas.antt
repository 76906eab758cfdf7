-- Facts on joining natural lines.
use Rattle.std.proofs.Common.{◌≡◌, ℕ, ◌+◌, ◌<◌, ◌≤◌, ◌&&◌, Bool, true, false, cond, not, List, [], ◌∷◌, ◌++◌, length, get_or, map, drop, refl, sym, ap, ◌∙◌, append_assoc}
use denote.Ref.{Bor}
use Rattle.std.proofs.lemmas.List.{drop_more, drop_all, append-nil}
use Rattle.props_reader.specs.declared.logical.Placed.{Placed}
use Rattle.props_reader.specs.LogicalLines.{join_first, logical_lines, is_skipped, is_continued, placed}

-- the logical lines, where `joined` is what the first of them has so far
abbrev pub resumed : {X : Type 0} → Bool → List X → List (List X) → List (List X)
resumed true joined lines = join_first joined lines
resumed false joined lines = lines

join_first-join_first : {X : Type 0} (a b : List X) (lines : List (List X)) → join_first a (join_first b lines) ≡ join_first (a ++ b) lines
join_first-join_first a b [] = refl
join_first-join_first a b (line ∷ lines) = ap (λ front. front ∷ lines) (sym (append_assoc a b line))

-- a skipped line
logical_lines-skipped : (number : ℕ) (line : List ℕ) (lines : List (List ℕ)) → is_skipped line ≡ true
    → logical_lines false number (line ∷ lines) ≡ logical_lines false (number + 1) lines
unfolding logical_lines
logical_lines-skipped number line lines h = rw h refl

-- the logical lines from here on, one natural line later
abbrev joined_more : List Placed → ℕ → List ℕ → List (List ℕ) → List (List Placed)
joined_more joined number line lines =
    cond (is_continued line) (join_first (joined ++ placed number line) (logical_lines true (number + 1) lines)) ((joined ++ placed number line) ∷ logical_lines false (number + 1) lines)

resumed-more : (goes_on : Bool) (joined : List Placed) (number : ℕ) (line : List ℕ) (lines : List (List ℕ))
    → (goes_on ≡ false → joined ≡ []) → (not goes_on && is_skipped line) ≡ false
    → resumed goes_on joined (logical_lines goes_on number (line ∷ lines)) ≡ joined_more joined number line lines
unfolding logical_lines
resumed-more true joined number line lines empty kept = by (is_continued line)
  where
    by : (b : Bool) → join_first joined (cond b (join_first (placed number line) (logical_lines true (number + 1) lines)) (placed number line ∷ logical_lines false (number + 1) lines))
        ≡ cond b (join_first (joined ++ placed number line) (logical_lines true (number + 1) lines)) ((joined ++ placed number line) ∷ logical_lines false (number + 1) lines)
    by true = join_first-join_first joined (placed number line) (logical_lines true (number + 1) lines)
    by false = refl
resumed-more false joined number line lines empty kept = rw (kept, empty refl) refl

abbrev texts : List (Bor (List ℕ)) → List (List ℕ)
texts lines = map (λ (line : Bor (List ℕ)). line.now) lines

-- the logical lines that are found, and those from the natural line at `index` on
abbrev pub from_index : List (List Placed) → Bool → List Placed → ℕ → List (Bor (List ℕ)) → List (List Placed)
from_index found goes_on joined index lines = found ++ resumed goes_on joined (logical_lines goes_on (index + 1) (texts (drop index lines)))

-- the natural lines from `index` on, the first of them apart
texts-drop : (index : ℕ) (lines : List (Bor (List ℕ))) (d : Bor (List ℕ)) → index < length lines
    → texts (drop index lines) ≡ (get_or lines index d).now ∷ texts (drop (index + 1) lines)
texts-drop index lines d inside = ap texts (drop_more lines index d inside)

module _ (found : List (List Placed)) (joined : List Placed) (index : ℕ) (lines : List (Bor (List ℕ))) (d : Bor (List ℕ)) (goes_on : Bool) where
  -- this natural line
  abbrev line : List ℕ
  line = (get_or lines index d).now

  pub from_index-skipped : index < length lines → goes_on ≡ false → is_skipped line ≡ true
      → from_index found goes_on joined index lines ≡ from_index found goes_on joined (index + 1) lines
  from_index-skipped inside first skipped =
      rw first
      (ap (λ left. found ++ logical_lines false (index + 1) left) (texts-drop index lines d inside)
      ∙ ap (λ left. found ++ left) (logical_lines-skipped (index + 1) line (texts (drop (index + 1) lines)) skipped))

  from_index-more : index < length lines → (goes_on ≡ false → joined ≡ []) → (not goes_on && is_skipped line) ≡ false
      → from_index found goes_on joined index lines ≡ found ++ joined_more joined (index + 1) line (texts (drop (index + 1) lines))
  from_index-more inside empty kept =
      ap (λ left. found ++ resumed goes_on joined (logical_lines goes_on (index + 1) left)) (texts-drop index lines d inside)
      ∙ ap (λ left. found ++ left) (resumed-more goes_on joined (index + 1) line (texts (drop (index + 1) lines)) empty kept)

  pub from_index-continued : index < length lines → (goes_on ≡ false → joined ≡ []) → (not goes_on && is_skipped line) ≡ false → is_continued line ≡ true
      → from_index found goes_on joined index lines ≡ from_index found true (joined ++ placed (index + 1) line) (index + 1) lines
  from_index-continued inside empty kept continued = from_index-more inside empty kept ∙ rw continued refl

  pub from_index-ended : index < length lines → (goes_on ≡ false → joined ≡ []) → (not goes_on && is_skipped line) ≡ false → is_continued line ≡ false → (others : List Placed)
      → from_index found goes_on joined index lines ≡ from_index (found ++ (joined ++ placed (index + 1) line) ∷ []) false others (index + 1) lines
  from_index-ended inside empty kept continued others = from_index-more inside empty kept ∙ rw continued (sym (append_assoc found _ _))

logical_lines-none : (goes_on : Bool) (number : ℕ) → logical_lines goes_on number [] ≡ cond goes_on ([] ∷ []) []
unfolding logical_lines
logical_lines-none goes_on number = refl

module _ (found : List (List Placed)) (joined : List Placed) (index : ℕ) (lines : List (Bor (List ℕ))) where
  -- no natural line is left
  pub from_index-none : (goes_on : Bool) → length lines ≤ index → from_index found goes_on joined index lines ≡ found ++ cond goes_on (joined ∷ []) []
  from_index-none true past = ap (λ left. found ++ join_first joined (logical_lines true (index + 1) (texts left))) (drop_all index lines past) ∙ rw (logical_lines-none, append-nil) refl
  from_index-none false past = ap (λ left. found ++ logical_lines false (index + 1) (texts left)) (drop_all index lines past) ∙ rw logical_lines-none refl
