-- Joined terms that become terms with positive coefficients, one after the other.
use Rattle.std.proofs.Common.{◌≡◌, ℕ, suc, ◌+◌, ◌<◌, ◌≤◌, Bool, true, false, cond, List, [], ◌∷◌, ◌++◌, length, get_or, take, drop, map, ℤ, pos, ◌+ℤ◌, ◌≤ℤ◌, All, refl, sym, ap, ◌∙◌, arith, add-one, drop-cons, length-drop, get_or-drop}
use Rattle.std.specs.List.Sorted.{IsStrictlyIncreasing}
use Rattle.std.proofs.lemmas.Int.{ints}
use Rattle.std.proofs.lemmas.List.{take_more, get_or-map, length-map}
use Rattle.std.proofs.lemmas.List.Elements.{All-push, All-head, All-tail}
use Rattle.std.proofs.lemmas.List.Kept.{AllPairs-from_increasing}
use Rattle.std.proofs.lemmas.List.Sums.{sum_by_push}
use Rattle.pb_core.specs.Joined.{joined_sum, joined_share, true_share, weight, size, AreJoinedAmong}
use Rattle.pb_core.specs.Literal.{holds}
use Rattle.pb_core.specs.Normal.{AreAmong}
use Rattle.pb_core.specs.Satisfied.{true_sum}
use Rattle.pb_core.specs.Slack.{coef_sum}
use Rattle.pb_core.specs.declared.literal.Term.{Term}
use Rattle.pb_core.specs.declared.normal_form.Joined.{Joined}
use Rattle.pb_core.proofs.JoinedLaws.{rising_push}
use Rattle.pb_core.proofs.SignedSums.{total_push}

pub record AreSplit (whole done rest : List Joined) (terms : List Term) (degree left : ℤ) : Type 0 where
  pub margin : (full : ℕ → Bool) → pos (true_sum full terms) +ℤ degree ≡ left +ℤ joined_sum full done
  pub rising : IsStrictlyIncreasing (map (λ t. t.lit.variable) terms)
  pub below : All (λ j. All (λ t. t.lit.variable < j.variable) terms) rest
  pub above_none : All (λ t. 0 < t.coef) terms
  pub light : coef_sum terms ≤ weight done
  pub high : left ≤ℤ (degree +ℤ pos (weight done))
  pub low : degree ≤ℤ (left +ℤ pos (weight done))
  pub among : (variables : ℕ) → AreJoinedAmong variables whole → AreAmong variables terms

-- the term of a variable is put at the end where it adds something
pub data Put (terms after : List Term) (t : Term) : Type 0 where
  put_away : after ≡ terms ++ t ∷ [] → 0 < t.coef → Put terms after t
  left_out : after ≡ terms → t.coef ≡ 0 → Put terms after t

-- what one joined term gives
pub record Splits (j : Joined) (common : ℤ) (t : Term) : Type 0 where
  pub variable : t.lit.variable ≡ j.variable
  pub share : (full : ℕ → Bool) → common +ℤ pos (true_share full t) ≡ joined_share full j
  pub low : pos 0 ≤ℤ (common +ℤ pos (size j))
  pub high : common ≤ℤ pos (size j)
  pub small : t.coef ≤ size j

nothing : (b : Bool) (n : ℕ) → n ≡ 0 → cond b n 0 ≡ 0
nothing true n e = e
nothing false n e = refl

put_sum : (full : ℕ → Bool) (terms after : List Term) (t : Term) → Put terms after t → true_sum full after ≡ true_sum full terms + true_share full t
put_sum full terms after t (put_away e some) = rw e (sum_by_push (λ (u : Term). cond (holds full u.lit) u.coef 0) terms t)
put_sum full terms after t (left_out e none) = let z = nothing (holds full t.lit) t.coef none in rw e (omega arith)

put_coefs : (terms after : List Term) (t : Term) → Put terms after t → coef_sum after ≡ coef_sum terms + t.coef
put_coefs terms after t (put_away e some) = rw e (sum_by_push (λ (u : Term). u.coef) terms t)
put_coefs terms after t (left_out e none) = rw e (omega arith)

put_all : (P : Term → Type 0) (terms after : List Term) (t : Term) → Put terms after t → All P terms → (0 < t.coef → P t) → All P after
put_all P terms after t (put_away e some) all here = rw e (All-push P terms t all (here some))
put_all P terms after t (left_out e none) all here = rw e all

put_rising : (terms after : List Term) (t : Term) → Put terms after t → IsStrictlyIncreasing (map (λ u. u.lit.variable) terms) → All (λ u. u.lit.variable < t.lit.variable) terms → IsStrictlyIncreasing (map (λ u. u.lit.variable) after)
put_rising terms after t (put_away e some) rising below = rw e (rising_push (λ (u : Term). u.lit.variable) terms t rising below)
put_rising terms after t (left_out e none) rising below = rw e rising

split_put : (whole done rest : List Joined) (terms after : List Term) (degree left now : ℤ) (j : Joined) (common : ℤ) (t : Term) → AreSplit whole done (j ∷ rest) terms degree left → Splits j common t → Put terms after t → now +ℤ common ≡ left → All (λ k. j.variable < k.variable) rest → ((variables : ℕ) → AreJoinedAmong variables whole → (j.variable ≤ variables) × (j.variable ≡ 0 → size j ≡ 0)) → AreSplit whole (done ++ j ∷ []) rest after degree now
split_put whole done rest terms after degree left now j common t state splits put turned later within = record {
  margin = λ full. let old = state.margin full in let sum = put_sum full terms after t put in let share = splits.share full in let push = total_push (joined_share full) done j in omega (arith, ints);
  rising = put_rising terms after t put state.rising here;
  below = λ k d h. put_all (λ u. u.lit.variable < (get_or rest k d).variable) terms after t put (next k d h) (λ some. omega (arith, splits.variable, later k d h));
  above_none = put_all (λ u. 0 < u.coef) terms after t put state.above_none (λ some. some);
  light = omega (arith, put_coefs terms after t put, sum_by_push size done j, splits.small, state.light);
  high = let push = sum_by_push size done j in let low = splits.low in let old = state.high in omega (arith, ints);
  low = let push = sum_by_push size done j in let high = splits.high in let old = state.low in omega (arith, ints);
  among = λ variables all. put_all (λ u. (0 < u.lit.variable) × (u.lit.variable ≤ variables)) terms after t put (state.among variables all) (λ some. (some_variable some (within variables all).1, omega (arith, splits.variable, (within variables all).0)));
}
  where
    here : All (λ u. u.lit.variable < t.lit.variable) terms
    here = rw splits.variable (All-head (λ (k : Joined). All (λ u. u.lit.variable < k.variable) terms) j rest state.below)

    next : All (λ k. All (λ u. u.lit.variable < k.variable) terms) rest
    next = All-tail (λ (k : Joined). All (λ u. u.lit.variable < k.variable) terms) j rest state.below

    some_variable : 0 < t.coef → (j.variable ≡ 0 → size j ≡ 0) → 0 < t.lit.variable
    some_variable some zero_size = grind (arith, zero_size, splits.variable, splits.small)

pub split_step : (joined : List Joined) (i : ℕ) (terms after : List Term) (degree left now : ℤ) (j : Joined) (common : ℤ) (t : Term) → i < length joined → j ≡ get_or joined i j → IsStrictlyIncreasing (map (λ k. k.variable) joined) → AreSplit joined (take i joined) (drop i joined) terms degree left → Splits j common t → Put terms after t → now +ℤ common ≡ left → AreSplit joined (take (i + 1) joined) (drop (i + 1) joined) after degree now
split_step joined i terms after degree left now j common t within is rising state splits put turned =
    rw (take_more joined i j within, ← is) (split_put joined (take i joined) (drop (i + 1) joined) terms after degree left now j common t (rw cons at state) splits put turned later (λ variables all. rw is (all i j within)))
  where
    cons : drop i joined ≡ j ∷ drop (i + 1) joined
    cons = rw add-one (drop-cons joined i j within ∙ ap (λ u. u ∷ drop (suc i) joined) (sym is))

    apart : (k : ℕ) (d : Joined) → i < k → k < length joined → j.variable < (get_or joined k d).variable
    apart k d lt h =
        let pairs = AllPairs-from_increasing (map (λ u. u.variable) joined) rising i k 0 lt (rw (length-map joined (λ (u : Joined). u.variable)) h) in
        let one : get_or (map (λ u. u.variable) joined) i 0 ≡ (get_or joined i j).variable = get_or-map (λ (u : Joined). u.variable) joined i j 0 within in
        let two : get_or (map (λ u. u.variable) joined) k 0 ≡ (get_or joined k d).variable = get_or-map (λ (u : Joined). u.variable) joined k d 0 h in
        omega (arith, pairs, one, two, ap (λ (u : Joined). u.variable) is)

    later : All (λ k. j.variable < k.variable) (drop (i + 1) joined)
    later k d h = rw (get_or-drop (i + 1) joined k d) (apart (i + 1 + k) d (omega arith) (omega (arith, rw (length-drop (i + 1) joined) at h)))
