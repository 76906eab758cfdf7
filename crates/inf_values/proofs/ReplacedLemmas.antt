-- Facts on the variables in values.
use Rattle.std.proofs.Common.{◌≡◌, ℕ, suc, ◌+◌, ◌<◌, nat_eq, ◌==◌, Bool, true, false, not, cond, List, [], ◌∷◌, ◌++◌, length, take, drop, Option, Some, None, option_and_then, codes, refl, sym, ap, ◌∙◌, append_assoc, take-append-drop, take_all, append-nil, le_refl, get_or, arith}
use Rattle.std.proofs.lemmas.List.{drop_more, drop_all}
use Rattle.std.specs.List.{starts_with, before_first, after_first, position_or_len}
use Rattle.std.specs.Str.{bytes_eq}
use Rattle.std.proofs.lemmas.Bool.Decides.{nat_tests}
use Rattle.std.proofs.lemmas.List.Sums.{passes_at_first}
use Rattle.std.proofs.lemmas.Slice.Eq.{bytes_eq-Decides}
use Rattle.unit_model.specs.declared.name.UnitName.{UnitName}
use Rattle.inf_values.specs.declared.variables.Variable.{Variable}
use Rattle.inf_values.specs.declared.variables.Variable.TheVariants.{Version, Qualifier}
use Rattle.inf_values.specs.Variable.{ReadsVariable, name_text, value_text}
use Rattle.inf_values.specs.Replaced.{with_front, replaced_from, replaced}

pub with_front-with_front : (a b : List ℕ) (o : Option (List ℕ)) → with_front a (with_front b o) ≡ with_front (a ++ b) o
with_front-with_front a b None = refl
with_front-with_front a b (Some rest) = ap Some (sym (append_assoc a b rest))

pub with_front-nil : (o : Option (List ℕ)) → with_front [] o ≡ o
with_front-nil None = refl
with_front-nil (Some rest) = refl

pub replaced-nil : (host : Option UnitName) → replaced host [] ≡ Some []
unfolding replaced_from
replaced-nil host = refl

-- a byte that isn't `$`
plain_byte : (host : Option UnitName) (b : ℕ) (text : List ℕ) → (b == 36) ≡ false → replaced host (b ∷ text) ≡ with_front (b ∷ []) (replaced host text)
unfolding replaced_from
plain_byte host b text h = let other : (36 == b) ≡ false = grind (arith, nat_tests) in rw other refl

-- what stands before the first `$` is kept
pub replaced-plain : (host : Option UnitName) (text : List ℕ) → replaced host text ≡ with_front (before_first (λ b. b == 36) text) (replaced host (drop (position_or_len (λ b. b == 36) text) text))
replaced-plain host [] = sym (with_front-nil (replaced host []))
replaced-plain host (b ∷ text) = by (b == 36) refl (replaced-plain host text)
  where
    n : ℕ
    n = position_or_len (λ b. b == 36) text

    by : (t : Bool) → (b == 36) ≡ t → replaced host text ≡ with_front (take n text) (replaced host (drop n text))
        → replaced host (b ∷ text) ≡ with_front (take (cond (not t) (1 + n) 0) (b ∷ text)) (replaced host (drop (cond (not t) (1 + n) 0) (b ∷ text)))
    by true e rest = sym (with_front-nil (replaced host (b ∷ text)))
    by false e rest =
        let more : suc n ≡ 1 + n = omega arith in
        plain_byte host b text e ∙ (ap (with_front (b ∷ [])) rest ∙ (with_front-with_front (b ∷ []) (take n text) (replaced host (drop n text))
        ∙ ap (λ k. with_front (take k (b ∷ text)) (replaced host (drop k (b ∷ text)))) more))

-- a variable
pub replaced-variable : (host : Option UnitName) (v : Variable) (rest : List ℕ)
    → replaced host (36 ∷ (name_text v ++ rest)) ≡ option_and_then (λ h. with_front (value_text v h) (replaced host rest)) host
unfolding replaced_from
replaced-variable host Version rest = refl
replaced-variable host Qualifier rest = refl

begins : (text name : List ℕ) → bytes_eq name (take (length name) text) ≡ true → text ≡ name ++ drop (length name) text
begins text name h =
    let same : name ≡ take (length name) text = (bytes_eq-Decides name (take (length name) text)).0 h in
    sym (take-append-drop (length name) text) ∙ ap (λ front. front ++ drop (length name) text) (sym same)

decided : (b : Bool) → (b ≡ true → ⊥) → b ≡ false
decided true h = absurd (h refl)
decided false h = refl

-- a `$` that begins no variable
pub replaced-dollar : (host : Option UnitName) (text : List ℕ) → ReadsVariable text None
    → replaced host (36 ∷ text) ≡ with_front (36 ∷ []) (replaced host text)
unfolding replaced_from
replaced-dollar host text none =
    let no_version : starts_with nat_eq (36 ∷ text) (codes "$version$") ≡ false = decided _ (λ e. none Version (drop 8 text) (begins text (codes "version$") e)) in
    let no_qualifier : starts_with nat_eq (36 ∷ text) (codes "$qualifier$") ≡ false = decided _ (λ e. none Qualifier (drop 10 text) (begins text (codes "qualifier$") e)) in
    rw (no_version, no_qualifier) refl

abbrev is_dollar : ℕ → Bool
is_dollar b = b == 36

dollar_at : (rest : List ℕ) → position_or_len is_dollar rest < length rest → get_or rest (position_or_len is_dollar rest) 0 ≡ 36
dollar_at rest inside =
    let passes : is_dollar (get_or rest (position_or_len is_dollar rest) 0) ≡ true = passes_at_first is_dollar rest 0 inside in grind (arith, nat_tests)

module _ (host : Option UnitName) (found rest before behind : List ℕ) (whole : Option (List ℕ)) where
  -- the rest is cut at its first `$`
  pub cut_at : with_front found (replaced host rest) ≡ whole → before ≡ before_first is_dollar rest → behind ≡ after_first is_dollar rest → position_or_len is_dollar rest < length rest
      → with_front (found ++ before) (replaced host (36 ∷ behind)) ≡ whole
  cut_at so_far front back inside =
      let n = position_or_len is_dollar rest in
      let at : get_or rest n 0 ≡ 36 = dollar_at rest inside in
      let behind_is : drop n rest ≡ 36 ∷ behind = drop_more rest n 0 inside ∙ (ap (λ b. b ∷ drop (n + 1) rest) at ∙ ap (λ r. 36 ∷ r) (sym back)) in
      let split : replaced host rest ≡ with_front before (replaced host (36 ∷ behind)) =
      replaced-plain host rest ∙ (ap (λ r. with_front (before_first is_dollar rest) (replaced host r)) behind_is ∙ ap (λ f. with_front f (replaced host (36 ∷ behind))) (sym front)) in
      sym (with_front-with_front found before (replaced host (36 ∷ behind))) ∙ (ap (with_front found) (sym split) ∙ so_far)

module _ (host : Option UnitName) (found behind : List ℕ) (whole : Option (List ℕ)) where
  pub none_at : (v : Variable) (later : List ℕ) → with_front found (replaced host (36 ∷ behind)) ≡ whole → behind ≡ name_text v ++ later → host ≡ None → None ≡ whole
  none_at v later so_far name none =
      let read : replaced host (36 ∷ behind) ≡ None = ap (λ b. replaced host (36 ∷ b)) name ∙ (replaced-variable host v later ∙ ap (λ h. option_and_then (λ h'. with_front (value_text v h') (replaced host later)) h) none) in
      ap (with_front found) (sym read) ∙ so_far

  pub variable_at : (v : Variable) (later : List ℕ) (h : UnitName) → with_front found (replaced host (36 ∷ behind)) ≡ whole → behind ≡ name_text v ++ later → host ≡ Some h
      → with_front (found ++ value_text v h) (replaced host later) ≡ whole
  variable_at v later h so_far name some =
      let read : replaced host (36 ∷ behind) ≡ with_front (value_text v h) (replaced host later) = ap (λ b. replaced host (36 ∷ b)) name ∙ (replaced-variable host v later ∙ ap (λ o. option_and_then (λ h'. with_front (value_text v h') (replaced host later)) o) some) in
      sym (with_front-with_front found (value_text v h) (replaced host later)) ∙ (ap (with_front found) (sym read) ∙ so_far)

  pub dollar_at_front : with_front found (replaced host (36 ∷ behind)) ≡ whole → ReadsVariable behind None → with_front (found ++ 36 ∷ []) (replaced host behind) ≡ whole
  dollar_at_front so_far none =
      sym (with_front-with_front found (36 ∷ []) (replaced host behind)) ∙ (ap (with_front found) (sym (replaced-dollar host behind none)) ∙ so_far)

  -- no `$` is left
  pub done : (rest : List ℕ) → with_front found (replaced host rest) ≡ whole → position_or_len is_dollar rest ≡ length rest → Some (found ++ rest) ≡ whole
  done rest so_far none =
      let split : replaced host rest ≡ Some rest =
      replaced-plain host rest ∙ (ap (λ n. with_front (take n rest) (replaced host (drop n rest))) none
      ∙ (ap (λ r. with_front (take (length rest) rest) (replaced host r)) (drop_all (length rest) rest (le_refl (length rest))) ∙ (ap (with_front (take (length rest) rest)) (replaced-nil host) ∙ ap Some (append-nil (take (length rest) rest) ∙ take_all (length rest) rest (le_refl (length rest)))))) in
      ap (with_front found) (sym split) ∙ so_far
