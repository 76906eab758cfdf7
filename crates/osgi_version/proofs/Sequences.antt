-- Where a text stops being the front of a sequence: a text of one kind, a mark, and a text of another kind.
use Rattle.std.proofs.Common.{◌≡◌, ℕ, ◌+◌, ◌-◌, ◌<◌, ◌≤◌, inl, inr, Bool, true, false, List, [], ◌∷◌, ◌++◌, length, get_or, take, drop, refl, ap, sym, ◌∙◌, arith, append_assoc, append-nil, le_refl, take_all, take-take, take-append-drop, length-append}
use Rattle.std.specs.List.{AllPass}
use Rattle.std.proofs.Math.Seq.{take-append_seam, take-append-add, drop-append_seam, get_or-append_seam}
use Rattle.std.proofs.lemmas.Bool.{cases_order}
use Rattle.std.proofs.lemmas.List.{take-append-le, drop-append-le, get_or_append_left, get_or-take, length-take-le, drop-take}
use Rattle.std.proofs.lemmas.List.Elements.{All-get_or}
use Rattle.osgi_version.specs.Begins.{Begins, IsLongestBegin}
use Rattle.osgi_version.specs.Sequence.{Sequence}

-- The bytes of each text of this kind pass the test.
abbrev pub HasBytes : (List ℕ → Type 0) → (ℕ → Bool) → Type 0
HasBytes Kind part = (text : List ℕ) → Kind text → AllPass part text

-- a byte of a front that some text of this kind begins with
part_of : (Kind : List ℕ → Type 0) (part : ℕ → Bool) → HasBytes Kind part → (text : List ℕ) (at i : ℕ) → Begins Kind (take at text) → at ≤ length text → i < at → part (get_or text i 0) ≡ true
part_of Kind part bytes text at i begins within below =
    let front : length (take at text) ≡ at = length-take-le at text within in
    let whole : i < length (take at text ++ begins.0) = omega (arith, length-append (take at text) begins.0) in
    let passes = All-get_or (λ b. part b ≡ true) (take at text ++ begins.0) i 0 whole (bytes (take at text ++ begins.0) begins.1) in
    let same : get_or (take at text ++ begins.0) i 0 ≡ get_or text i 0 = get_or_append_left (take at text) begins.0 0 i (omega arith) ∙ get_or-take at text i 0 below in
    rw same at passes

-- Where a longer front goes on to a text of the first kind and a mark, the mark stands behind the longest front.
pub mark_at : (Kind : List ℕ → Type 0) (part : ℕ → Bool) → HasBytes Kind part → (text : List ℕ) (at : ℕ) → IsLongestBegin Kind text at
    → (n : ℕ) (more front : List ℕ) (mark : ℕ) (rest : List ℕ) → at < n → n ≤ length text
    → take n text ++ more ≡ front ++ mark ∷ rest → Kind front → part mark ≡ false → length front ≡ at
mark_at Kind part bytes text at longest n more front mark rest past fits spelled kind no_part =
    let long : length (take n text) ≡ n = length-take-le n text fits in
    elim (cases_order (length front) at) [
      | inl same ↦ same
      | inr (inl before) ↦
          let within : length front < length (take n text) = omega arith in
          let here : get_or text (length front) 0 ≡ mark =
          sym (get_or_append_left (take n text) more 0 (length front) within ∙ get_or-take n text (length front) 0 (omega arith))
          ∙ (ap (λ l. get_or l (length front) 0) spelled ∙ get_or-append_seam front mark rest 0) in
          let passes = part_of Kind part bytes text at (length front) longest.begins longest.within before in
          let passes' : part mark ≡ true = rw here at passes in
          absurd (cc)
      | inr (inr behind) ↦
          let cut : take (at + 1) front ≡ take (at + 1) text =
          sym (take-append-le (at + 1) front (mark ∷ rest) (omega arith))
          ∙ (ap (take (at + 1)) (sym spelled) ∙ (take-append-le (at + 1) (take n text) more (omega arith) ∙ take-take (at + 1) n text (omega arith))) in
          let joined : take (at + 1) text ++ drop (at + 1) front ≡ front = rw (← cut) (take-append-drop (at + 1) front) in
          absurd (longest.longest (at + 1) (omega arith) (omega arith) (drop (at + 1) front, rw joined kind))
    ]

-- What stands before the mark, the mark, and what stands behind it.
pub parts_at : (text : List ℕ) (at n : ℕ) (more front : List ℕ) (mark : ℕ) (rest : List ℕ) → at < n → n ≤ length text
    → take n text ++ more ≡ front ++ mark ∷ rest → length front ≡ at
    → (front ≡ take at text) × (mark ≡ get_or text at 0) × (drop (at + 1) (take n text) ++ more ≡ rest)
parts_at text at n more front mark rest past fits spelled long =
    let whole : length (take n text) ≡ n = length-take-le n text fits in
    let front' : take at text ≡ front =
    sym (take-append-le at (take n text) more (omega arith) ∙ take-take at n text (omega arith))
    ∙ (ap (take at) spelled ∙ (rw (← long) (take-append_seam front (mark ∷ rest)))) in
    let mark' : get_or text at 0 ≡ mark =
    sym (get_or_append_left (take n text) more 0 at (omega arith) ∙ get_or-take n text at 0 past)
    ∙ (ap (λ l. get_or l at 0) spelled ∙ (rw (← long) (get_or-append_seam front mark rest 0))) in
    let marked : length (front ++ mark ∷ []) ≡ at + 1 = omega (arith, length-append front (mark ∷ [])) in
    let behind : drop (at + 1) (front ++ mark ∷ rest) ≡ rest =
    rw (← marked, ← append_assoc front (mark ∷ []) rest) (drop-append_seam (front ++ mark ∷ []) rest) in
    let left : drop (at + 1) (take n text ++ more) ≡ drop (at + 1) (take n text) ++ more = drop-append-le (at + 1) (take n text) more (omega arith) in
    (sym front', sym mark', sym left ∙ (ap (drop (at + 1)) spelled ∙ behind))

-- A refusal at a place: the text isn't accepted, and its front of this length is the longest that some accepted text begins with.
abbrev pub IsRefusedAt : (List ℕ → Type 0) → List ℕ → ℕ → Type 0
IsRefusedAt Kind text at = ¬ (Kind text) × IsLongestBegin Kind text at

-- No mark stands behind the longest front of the first kind.
pub record IsUnmarked (Kind : List ℕ → Type 0) (is_mark : ℕ → Bool) (text : List ℕ) (at : ℕ) : Type 0 where
  pub unmarked : at < length text → Kind (take at text) → is_mark (get_or text at 0) ≡ true → ⊥

-- a mark, and what may stand behind it
pub record CanEnd (part is_mark : ℕ → Bool) (Rest : List ℕ → Type 0) : Type 0 where
  pub apart : (b : ℕ) → is_mark b ≡ true → part b ≡ false
  pub mark : ℕ
  pub marks : is_mark mark ≡ true
  pub rest : List ℕ
  pub behind : Rest rest

-- a sequence whose mark stands past the longest front isn't there
sequence_ends : (Kind : List ℕ → Type 0) (part is_mark : ℕ → Bool) (Rest : List ℕ → Type 0) → HasBytes Kind part → CanEnd part is_mark Rest
    → (text : List ℕ) (at n : ℕ) → IsLongestBegin Kind text at → IsUnmarked Kind is_mark text at → at < n → n ≤ length text → ¬ (Begins (Sequence Kind is_mark Rest) (take n text))
sequence_ends Kind part is_mark Rest bytes can text at n longest unmarked past fits (more, s) =
    let long = mark_at Kind part bytes text at longest n more s.front s.mark s.rest past fits s.spelling s.first (can.apart s.mark s.marked) in
    let parts = parts_at text at n more s.front s.mark s.rest past fits s.spelling long in
    unmarked.unmarked (omega arith) (rw parts.0 at s.first) (rw parts.1 at s.marked)

pub refused_unmarked : (Kind : List ℕ → Type 0) (part is_mark : ℕ → Bool) (Rest : List ℕ → Type 0) → HasBytes Kind part → CanEnd part is_mark Rest
    → (text : List ℕ) (at : ℕ) → IsLongestBegin Kind text at → IsUnmarked Kind is_mark text at → IsRefusedAt (Sequence Kind is_mark Rest) text at
refused_unmarked Kind part is_mark Rest bytes can text at longest unmarked = (
  λ s.
      let size : length s.front < length text = omega (arith, ap length s.spelling, length-append s.front (s.mark ∷ s.rest)) in
      elim (cases_order at (length text)) [
        | inl same ↦
            let whole : take (length text) text ≡ text = take_all (length text) text (le_refl (length text)) in
            let begins : Begins Kind (take (length text) text) = rw (← same) longest.begins in
            let here : get_or text (length s.front) 0 ≡ s.mark = ap (λ l. get_or l (length s.front) 0) s.spelling ∙ get_or-append_seam s.front s.mark s.rest 0 in
            let passes : part s.mark ≡ true = rw here at (part_of Kind part bytes text (length text) (length s.front) begins (le_refl _) size) in
            let fails : part s.mark ≡ false = can.apart s.mark s.marked in
            absurd (cc)
        | inr (inl below) ↦
            let whole : take (length text) text ++ [] ≡ text = append-nil (take (length text) text) ∙ take_all (length text) text (le_refl (length text)) in
            sequence_ends Kind part is_mark Rest bytes can text at (length text) longest unmarked below (le_refl _) ([], rw whole s)
        | inr (inr above) ↦ absurd (let within = longest.within in omega arith)
      ],
  record {
    within = longest.within;
    begins = (
      longest.begins.0 ++ can.mark ∷ can.rest,
      record {
        front = take at text ++ longest.begins.0;
        mark = can.mark;
        rest = can.rest;
        spelling = sym (append_assoc (take at text) longest.begins.0 (can.mark ∷ can.rest));
        first = longest.begins.1;
        marked = can.marks;
        behind = can.behind;
      },
    );
    longest = λ n past fits. sequence_ends Kind part is_mark Rest bytes can text at n longest unmarked past fits;
  },
)

-- A whole text of the first kind, the longest there is, with a mark behind it.
pub record IsMarked (Kind : List ℕ → Type 0) (is_mark : ℕ → Bool) (text front : List ℕ) (mark : ℕ) (rest : List ℕ) : Type 0 where
  pub spelling : text ≡ front ++ mark ∷ rest
  pub first : Kind front
  pub longest : IsLongestBegin Kind text (length front)
  pub marked : is_mark mark ≡ true

-- what a longer front goes on to is what stands behind the mark
pub rest_refused : (Kind : List ℕ → Type 0) (part is_mark : ℕ → Bool) (Rest : List ℕ → Type 0) → HasBytes Kind part → CanEnd part is_mark Rest
    → (text front : List ℕ) (mark : ℕ) (rest : List ℕ) (k : ℕ) → IsMarked Kind is_mark text front mark rest → IsRefusedAt Rest rest k
    → IsRefusedAt (Sequence Kind is_mark Rest) text (length front + 1 + k)
rest_refused Kind part is_mark Rest bytes can text front mark rest k m refused =
    let size : length text ≡ length front + 1 + length rest = omega (arith, ap length m.spelling, length-append front (mark ∷ rest)) in
    let after : drop (length front + 1) text ≡ rest =
    let marked : length (front ++ mark ∷ []) ≡ length front + 1 = omega (arith, length-append front (mark ∷ [])) in
    rw (m.spelling, ← marked, ← append_assoc front (mark ∷ []) rest) (drop-append_seam (front ++ mark ∷ []) rest) in
    let ends : (n : ℕ) → length front + 1 + k < n → n ≤ length text → ¬ (Begins (Sequence Kind is_mark Rest) (take n text)) = λ n past fits (more, s).
    let long = mark_at Kind part bytes text (length front) m.longest n more s.front s.mark s.rest (omega arith) fits s.spelling s.first (can.apart s.mark s.marked) in
    let parts = parts_at text (length front) n more s.front s.mark s.rest (omega arith) fits s.spelling long in
    let left : n ≡ length front + 1 + (n - (length front + 1)) = omega arith in
    let cut : drop (length front + 1) (take n text) ≡ take (n - (length front + 1)) rest =
    ap (λ i. drop (length front + 1) (take i text)) left ∙ (drop-take (length front + 1) (n - (length front + 1)) text ∙ ap (take (n - (length front + 1))) after) in
    let joined : take (n - (length front + 1)) rest ++ more ≡ s.rest = rw cut at parts.2 in
    refused.1.longest (n - (length front + 1)) (omega arith) (omega arith) (more, rw joined s.behind) in
    let within = refused.1.within in (
      λ s.
          let whole : take (length text) text ++ [] ≡ text = append-nil (take (length text) text) ∙ take_all (length text) text (le_refl (length text)) in
          let spelled : take (length text) text ++ [] ≡ s.front ++ s.mark ∷ s.rest = whole ∙ s.spelling in
          let long = mark_at Kind part bytes text (length front) m.longest (length text) [] s.front s.mark s.rest (omega arith) (le_refl _) spelled s.first (can.apart s.mark s.marked) in
          let parts = parts_at text (length front) (length text) [] s.front s.mark s.rest (omega arith) (le_refl _) spelled long in
          let all : drop (length front + 1) (take (length text) text) ++ [] ≡ rest =
          append-nil _ ∙ (ap (drop (length front + 1)) (take_all (length text) text (le_refl (length text))) ∙ after) in
          let same : rest ≡ s.rest = sym all ∙ parts.2 in
          refused.0 (rw same s.behind),
      record {
        within = omega arith;
        begins =
            let marked : length (front ++ mark ∷ []) ≡ length front + 1 = omega (arith, length-append front (mark ∷ [])) in
            let cut : take (length front + 1 + k) text ≡ front ++ mark ∷ take k rest =
            rw (m.spelling, ← marked, ← append_assoc front (mark ∷ []) rest, ← append_assoc front (mark ∷ []) (take k rest))
            (take-append-add (front ++ mark ∷ []) rest k) in (
              refused.1.begins.0,
              record {
                front = front;
                mark = mark;
                rest = take k rest ++ refused.1.begins.0;
                spelling = rw (cut, append_assoc front (mark ∷ take k rest) refused.1.begins.0) refl;
                first = m.first;
                marked = m.marked;
                behind = refused.1.begins.1;
              },
            );
        longest = ends;
      },
    )
