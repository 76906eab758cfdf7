-- Facts on the variables in values.
use Rattle.std.proofs.Common.{◌≡◌, ◌≢◌, ℕ, zero, suc, ◌+◌, ◌-◌, ◌<◌, ◌≤◌, ◌==◌, Bool, true, false, not, cond, List, [], ◌∷◌, ◌++◌, length, take, drop, Option, Some, None, Result, Ok, Err, refl, sym, ap, ◌∙◌, append_assoc, take_all, append-nil, le_refl, get_or, arith}
use Rattle.std.proofs.lemmas.List.{drop_more, drop_all, length-drop}
use Rattle.std.specs.List.{before_first, position_or_len}
use Rattle.std.specs.Char.{encode_utf8}
use Rattle.std.proofs.lemmas.Bool.Decides.{nat_tests}
use Rattle.instr_text.specs.declared.fault.InstrRefusal.{InstrRefusal}
use Rattle.instr_text.specs.Gives.{◌>>=◌}
use Rattle.instr_text.specs.Cut.{cut}
use Rattle.instr_text.proofs.CutLemmas.{cut-some, cut-none, mark_at}
use Rattle.instr_text.specs.Expanded.{with_front, variable_of, expanded_from, expanded, closed_variable, named_character, character}

pub with_front-with_front : (a b : List ℕ) (o : Result (List ℕ) InstrRefusal) → with_front a (with_front b o) ≡ with_front (a ++ b) o
with_front-with_front a b (Err e) = refl
with_front-with_front a b (Ok rest) = ap Ok (sym (append_assoc a b rest))

pub with_front-nil : (o : Result (List ℕ) InstrRefusal) → with_front [] o ≡ o
with_front-nil (Err e) = refl
with_front-nil (Ok rest) = refl

expanded-nil : expanded [] ≡ Ok []
unfolding expanded_from
expanded-nil = refl

-- a byte that isn't `$`
plain_byte : (b : ℕ) (text : List ℕ) → (b == 36) ≡ false → expanded (b ∷ text) ≡ with_front (b ∷ []) (expanded text)
unfolding expanded_from
plain_byte b text h = let other : (36 == b) ≡ false = grind (arith, nat_tests) in rw other refl

-- what stands before the first `$` is kept
expanded-plain : (text : List ℕ) → expanded text ≡ with_front (before_first (λ b. b == 36) text) (expanded (drop (position_or_len (λ b. b == 36) text) text))
expanded-plain [] = sym (with_front-nil (expanded []))
expanded-plain (b ∷ text) = by (b == 36) refl (expanded-plain text)
  where
    n : ℕ
    n = position_or_len (λ b. b == 36) text

    by : (t : Bool) → (b == 36) ≡ t → expanded text ≡ with_front (take n text) (expanded (drop n text))
        → expanded (b ∷ text) ≡ with_front (take (cond (not t) (1 + n) 0) (b ∷ text)) (expanded (drop (cond (not t) (1 + n) 0) (b ∷ text)))
    by true e rest = sym (with_front-nil (expanded (b ∷ text)))
    by false e rest =
        let more : suc n ≡ 1 + n = omega arith in
        plain_byte b text e ∙ (ap (with_front (b ∷ [])) rest ∙ (with_front-with_front (b ∷ []) (take n text) (expanded (drop n text))
        ∙ ap (λ k. with_front (take k (b ∷ text)) (expanded (drop k (b ∷ text)))) more))

-- bytes that belong to a variable are passed over
passed : (n : ℕ) (text : List ℕ) → expanded_from n text ≡ expanded (drop n text)
unfolding expanded_from
passed zero text = refl
passed (suc n) [] = refl
passed (suc n) (b ∷ text) = passed n text

-- `${` and a variable
expanded-variable : (name : List ℕ) → expanded (36 ∷ 123 ∷ name) ≡ (variable_of name >>= λ found. with_front (encode_utf8 found.0) (expanded_from (length (123 ∷ name) - length found.1) (123 ∷ name)))
unfolding expanded_from
expanded-variable name = refl

decided : (b : Bool) → (b ≡ true → ⊥) → b ≡ false
decided true h = absurd (h refl)
decided false h = refl

-- a `$` with no `{` behind it
expanded-dollar : (text : List ℕ) → ((rest : List ℕ) → text ≢ 123 ∷ rest) → expanded (36 ∷ text) ≡ with_front (36 ∷ []) (expanded text)
unfolding expanded_from
expanded-dollar [] none = refl
expanded-dollar (b ∷ text) none =
    let other : (123 == b) ≡ false = decided _ (λ e. none text (ap (λ x. x ∷ text) (let same : b ≡ 123 = grind (arith, nat_tests, e) in same))) in
    rw other refl

abbrev is_dollar : ℕ → Bool
is_dollar b = b == 36

-- the rest is cut at its first `$`
dollar_cut : (rest before behind : List ℕ) → Some (before, behind) ≡ cut 36 rest → expanded rest ≡ with_front before (expanded (36 ∷ behind))
dollar_cut rest before behind h =
    let parts = cut-some 36 rest before behind h in
    let n = position_or_len is_dollar rest in
    let at : get_or rest n 0 ≡ 36 = mark_at 36 rest parts.inside in
    let behind_is : drop n rest ≡ 36 ∷ behind = drop_more rest n 0 parts.inside ∙ (ap (λ b. b ∷ drop (n + 1) rest) at ∙ ap (λ r. 36 ∷ r) (sym parts.back)) in
    expanded-plain rest ∙ (ap (λ r. with_front (before_first is_dollar rest) (expanded r)) behind_is ∙ ap (λ f. with_front f (expanded (36 ∷ behind))) (sym parts.front))

no_dollar : (rest : List ℕ) → None ≡ cut 36 rest → expanded rest ≡ Ok rest
no_dollar rest h =
    let n : position_or_len is_dollar rest ≡ length rest = cut-none 36 rest h in
    expanded-plain rest ∙ (ap (λ n. with_front (take n rest) (expanded (drop n rest))) n
    ∙ (ap (λ r. with_front (take (length rest) rest) (expanded r)) (drop_all (length rest) rest (le_refl (length rest))) ∙ (ap (with_front (take (length rest) rest)) expanded-nil ∙ ap Ok (append-nil (take (length rest) rest) ∙ take_all (length rest) rest (le_refl (length rest))))))

-- what stands behind a variable is a part of the text
record StandsBehind (name behind : List ℕ) : Type 0 where
  place : ℕ
  within : place + 1 ≤ length name
  is : behind ≡ drop (place + 1) name

behind_named : (text name rest : List ℕ) (found : Option ℕ) (c : ℕ) (behind : List ℕ) → named_character name rest found ≡ Ok (c, behind) → rest ≡ behind
behind_named text name rest None c behind h = absurd (let no : ⊥ = cc in no)
behind_named text name rest (Some d) c behind h = ap behind_of h
  where
    behind_of : Result (ℕ × List ℕ) InstrRefusal → List ℕ
    behind_of (Ok p) = p.1
    behind_of (Err e) = []

variable_behind : (name : List ℕ) (c : ℕ) (behind : List ℕ) → variable_of name ≡ Ok (c, behind) → StandsBehind name behind
unfolding variable_of
variable_behind name c behind h = by (cut 125 name) refl h
  where
    by : (halves : Option (List ℕ × List ℕ)) → cut 125 name ≡ halves → closed_variable name halves ≡ Ok (c, behind) → StandsBehind name behind
    by None e h = absurd (let no : ⊥ = cc in no)
    by (Some halves) e h =
        let parts = cut-some 125 name halves.0 halves.1 (sym e) in
        record {
          place = position_or_len (λ b. b == 125) name;
          within = omega (arith, parts.inside);
          is = sym (behind_named name halves.0 halves.1 (character halves.0) c behind h) ∙ parts.back;
        }

taken_bytes : (name behind : List ℕ) → StandsBehind name behind → drop (length (123 ∷ name) - length behind) (123 ∷ name) ≡ behind
taken_bytes name behind s =
    let long : length behind ≡ length name - (s.place + 1) = ap length s.is ∙ length-drop (s.place + 1) name in
    let n : length (123 ∷ name) - length behind ≡ suc (s.place + 1) = omega (arith, s.within, long) in
    ap (λ k. drop k (123 ∷ name)) n ∙ sym s.is

module _ (found rest before behind : List ℕ) (whole : Result (List ℕ) InstrRefusal) where
  pub step_cut : with_front found (expanded rest) ≡ whole → Some (before, behind) ≡ cut 36 rest → with_front (found ++ before) (expanded (36 ∷ behind)) ≡ whole
  step_cut so_far h = sym (with_front-with_front found before (expanded (36 ∷ behind))) ∙ (ap (with_front found) (sym (dollar_cut rest before behind h)) ∙ so_far)

  pub step_done : with_front found (expanded rest) ≡ whole → None ≡ cut 36 rest → whole ≡ Ok (found ++ rest)
  step_done so_far h = sym so_far ∙ ap (with_front found) (no_dollar rest h)

module _ (found behind : List ℕ) (whole : Result (List ℕ) InstrRefusal) where
  pub step_dollar : with_front found (expanded (36 ∷ behind)) ≡ whole → ((rest : List ℕ) → behind ≢ 123 ∷ rest) → with_front (found ++ 36 ∷ []) (expanded behind) ≡ whole
  step_dollar so_far none = sym (with_front-with_front found (36 ∷ []) (expanded behind)) ∙ (ap (with_front found) (sym (expanded-dollar behind none)) ∙ so_far)

  pub step_variable : (name : List ℕ) (c : ℕ) (later : List ℕ) → with_front found (expanded (36 ∷ behind)) ≡ whole → behind ≡ 123 ∷ name → variable_of name ≡ Ok (c, later)
      → with_front (found ++ encode_utf8 c) (expanded later) ≡ whole
  step_variable name c later so_far opened read =
      let go = λ (r : Result (ℕ × List ℕ) InstrRefusal). r >>= λ found. with_front (encode_utf8 found.0) (expanded_from (length (123 ∷ name) - length found.1) (123 ∷ name)) in
      let rest_is : expanded_from (length (123 ∷ name) - length later) (123 ∷ name) ≡ expanded later =
      passed (length (123 ∷ name) - length later) (123 ∷ name) ∙ ap expanded (taken_bytes name later (variable_behind name c later read)) in
      let step : expanded (36 ∷ behind) ≡ with_front (encode_utf8 c) (expanded later) =
      ap (λ b. expanded (36 ∷ b)) opened ∙ (expanded-variable name ∙ (ap go read ∙ ap (with_front (encode_utf8 c)) rest_is)) in
      sym (with_front-with_front found (encode_utf8 c) (expanded later)) ∙ (ap (with_front found) (sym step) ∙ so_far)

  pub step_refused : (name : List ℕ) (e : InstrRefusal) → with_front found (expanded (36 ∷ behind)) ≡ whole → behind ≡ 123 ∷ name → variable_of name ≡ Err e → whole ≡ Err e
  step_refused name e so_far opened read =
      let go = λ (r : Result (ℕ × List ℕ) InstrRefusal). r >>= λ found. with_front (encode_utf8 found.0) (expanded_from (length (123 ∷ name) - length found.1) (123 ∷ name)) in
      sym so_far ∙ ap (with_front found) (ap (λ b. expanded (36 ∷ b)) opened ∙ (expanded-variable name ∙ ap go read))

-- what stands behind is shorter
pub shorter : (mark : ℕ) (text before behind : List ℕ) → Some (before, behind) ≡ cut mark text → length behind < length text
shorter mark text before behind h =
    let parts = cut-some mark text before behind h in
    let long : length behind ≡ length text - (position_or_len (λ b. b == mark) text + 1) = ap length parts.back ∙ length-drop (position_or_len (λ b. b == mark) text + 1) text in
    omega (arith, parts.inside, long)

pub shorter_variable : (behind name : List ℕ) (c : ℕ) (later : List ℕ) → behind ≡ 123 ∷ name → variable_of name ≡ Ok (c, later) → length later < length behind
shorter_variable behind name c later opened read =
    let s = variable_behind name c later read in
    let long : length later ≡ length name - (s.place + 1) = ap length s.is ∙ length-drop (s.place + 1) name in
    let longer : length behind ≡ suc (length name) = ap length opened in
    omega (arith, s.within, long, longer)
