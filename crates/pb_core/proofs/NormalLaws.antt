-- What the normal form says, against the terms that it was made from.
use Rattle.std.proofs.Common.{◌≡◌, ℕ, suc, ◌+◌, ◌*◌, ◌^◌, ◌<◌, ◌≤◌, Bool, true, false, not, cond, eqb, List, [], ◌∷◌, length, get_or, map, min, sum_by, ℤ, pos, negsuc, ◌≤ℤ◌, All, AllPairs, ◌↔◌, refl, sym, ◌∙◌, arith}
use Rattle.std.specs.Int.RustNames.{unsigned_abs}
use Rattle.std.proofs.Math.Nat.{mul-le-mul_right}
use Rattle.std.proofs.lemmas.Bool.Decides.{nat_tests}
use Rattle.std.proofs.lemmas.Int.{ints}
use Rattle.std.proofs.lemmas.List.{get_or-map, length-map}
use Rattle.std.proofs.lemmas.Simd.{map-map}
use Rattle.std.proofs.lemmas.List.Elements.{All-head, All-tail}
use Rattle.std.proofs.lemmas.List.Kept.{AllPairs-from_increasing}
use Rattle.std.proofs.lemmas.List.Sums.{sum_by-cons, sum_by-le}
use Rattle.pb_core.specs.AtLeast.{AtLeast}
use Rattle.pb_core.specs.Literal.{holds}
use Rattle.pb_core.specs.Normal.{IsNormal, AreAmong}
use Rattle.pb_core.specs.Normalised.{IsNormalised, IsSatisfiedSigned, AreSignedAmong, IsModerate, clipped}
use Rattle.pb_core.specs.Joined.{IsPrepared, signed_size}
use Rattle.pb_core.specs.Satisfied.{IsSatisfied, true_sum}
use Rattle.pb_core.specs.Slack.{coef_sum}
use Rattle.pb_core.specs.declared.literal.SignedTerm.{SignedTerm}
use Rattle.pb_core.specs.declared.literal.Term.{Term}

-- ---- clipped coefficients

share_clip : (h : Bool) (coef degree sum clipped_sum : ℕ) → clipped_sum ≤ sum → min degree sum ≤ clipped_sum → (cond h (min coef degree) 0 + clipped_sum ≤ cond h coef 0 + sum) × (min degree (cond h coef 0 + sum) ≤ cond h (min coef degree) 0 + clipped_sum)
share_clip true coef degree sum clipped_sum le ge = (omega arith, omega arith)
share_clip false coef degree sum clipped_sum le ge = (omega arith, omega arith)

clip_sum : (full : ℕ → Bool) (degree : ℕ) (terms : List Term) → (true_sum full (clipped degree terms) ≤ true_sum full terms) × (min degree (true_sum full terms) ≤ true_sum full (clipped degree terms))
clip_sum full degree [] = (omega arith, omega arith)
clip_sum full degree (t ∷ terms) =
    let rest = clip_sum full degree terms in
    let one = sum_by-cons (λ (u : Term). cond (holds full u.lit) u.coef 0) t terms in
    let other = sum_by-cons (λ (u : Term). cond (holds full u.lit) u.coef 0) (record { coef = min t.coef degree; lit = t.lit }) (clipped degree terms) in
    rw (one, other) (share_clip (holds full t.lit) t.coef degree (true_sum full terms) (true_sum full (clipped degree terms)) rest.0 rest.1)

clip_coefs : (degree : ℕ) (terms : List Term) → coef_sum (clipped degree terms) ≤ coef_sum terms
clip_coefs degree [] = omega arith
clip_coefs degree (t ∷ terms) =
    let rest = clip_coefs degree terms in
    let one = sum_by-cons (λ (u : Term). u.coef) t terms in
    let other = sum_by-cons (λ (u : Term). u.coef) (record { coef = min t.coef degree; lit = t.lit }) (clipped degree terms) in
    omega arith

pub clipped_all : (P : Term → Type 0) (degree : ℕ) (terms : List Term) → All (λ t. P (record { coef = min t.coef degree; lit = t.lit })) terms → All P (clipped degree terms)
clipped_all P degree terms all k d h =
    let f : Term → Term = λ t. record { coef = min t.coef degree; lit = t.lit } in
    let within : k < length terms = rw (length-map terms f) at h in
    rw (get_or-map f terms k d d within) (all k d within)

-- ---- what holds of a normal form

pub normalised_same : (terms : List SignedTerm) (degree : ℤ) (c : AtLeast) → IsNormalised terms degree c → (full : ℕ → Bool) → IsSatisfied full c ↔ IsSatisfiedSigned full terms degree
normalised_same terms degree c n full = (there, back)
  where
    sums : (true_sum full c.terms ≤ true_sum full n.joined) × (min c.degree (true_sum full n.joined) ≤ true_sum full c.terms)
    sums = rw n.clips (clip_sum full c.degree n.joined)

    there : IsSatisfied full c → IsSatisfiedSigned full terms degree
    there h = let margin = n.same_margin full in let le = sums.0 in omega (arith, ints)

    back : IsSatisfiedSigned full terms degree → IsSatisfied full c
    back h = let margin = n.same_margin full in let reached : c.degree ≤ true_sum full n.joined = omega (arith, ints) in omega (arith, sums.1)

pub normalised_normal : (terms : List SignedTerm) (degree : ℤ) (c : AtLeast) (n : IsNormalised terms degree c) → 0 < c.degree → c.degree ≤ 2 ^ 54 → coef_sum n.joined ≤ 2 ^ 54 → IsNormal c
normalised_normal terms degree c n some small sum = record {
  rising = rw (n.clips, map-map) n.rising;
  coefs = rw n.clips (clipped_all (λ t. (0 < t.coef) × (t.coef ≤ c.degree)) c.degree n.joined (λ k d h. let above = n.above_none k d h in (omega (arith, above, some), omega arith)));
  some_degree = some;
  small_degree = small;
  small_sum = rw n.clips (let le = clip_coefs c.degree n.joined in omega (arith, le, sum));
}

-- ---- from the terms with positive coefficients

pub prepared_none : (terms : List SignedTerm) (degree : ℤ) (positive : List Term) (left : ℤ) → IsPrepared terms degree positive left → left ≤ℤ pos 0 → (full : ℕ → Bool) → IsSatisfiedSigned full terms degree
prepared_none terms degree positive left p below full = let margin = p.margin full in omega (arith, ints)

pub prepared_normalised : (terms : List SignedTerm) (degree : ℤ) (positive : List Term) (left : ℤ) (c : AtLeast) → IsPrepared terms degree positive left → left ≡ pos c.degree → c.terms ≡ clipped c.degree positive → IsNormalised terms degree c
prepared_normalised terms degree positive left c p is clips = record {
  joined = positive;
  rising = p.rising;
  above_none = p.above_none;
  same_margin = λ full. rw is at (p.margin full);
  clips = clips;
}

pub prepared_normal : (terms : List SignedTerm) (degree : ℤ) (positive : List Term) (left : ℤ) (c : AtLeast) (p : IsPrepared terms degree positive left) (is : left ≡ pos c.degree) (clips : c.terms ≡ clipped c.degree positive) → 0 < c.degree → IsNormal c
unfolding prepared_normalised
prepared_normal terms degree positive left c p is clips some =
    normalised_normal terms degree c (prepared_normalised terms degree positive left c p is clips) some (let high = p.high in omega (arith, ints)) p.small

pub prepared_among : (terms : List SignedTerm) (degree : ℤ) (positive : List Term) (left : ℤ) (c : AtLeast) → IsPrepared terms degree positive left → c.terms ≡ clipped c.degree positive → (variables : ℕ) → AreSignedAmong variables terms → AreAmong variables c.terms
prepared_among terms degree positive left c p clips variables all = rw clips (clipped_all (λ t. (0 < t.lit.variable) × (t.lit.variable ≤ variables)) c.degree positive (p.among variables all))

-- ---- an assignment that fails a normal form

-- makes each literal false, where no two terms have one variable
abbrev falsifier : List Term → ℕ → Bool
falsifier [] v = false
falsifier (t ∷ terms) v = cond (eqb t.lit.variable v) (not t.lit.positive) (falsifier terms v)

agree_sum : (f g : ℕ → Bool) (terms : List Term) → All (λ t. f t.lit.variable ≡ g t.lit.variable) terms → true_sum f terms ≡ true_sum g terms
agree_sum f g [] same = refl
agree_sum f g (t ∷ terms) same =
    let here : f t.lit.variable ≡ g t.lit.variable = All-head (λ (u : Term). f u.lit.variable ≡ g u.lit.variable) t terms same in
    let rest = agree_sum f g terms (All-tail (λ (u : Term). f u.lit.variable ≡ g u.lit.variable) t terms same) in
    sum_by-cons (λ (u : Term). cond (holds f u.lit) u.coef 0) t terms ∙ rw (here, rest) (sym (sum_by-cons (λ (u : Term). cond (holds g u.lit) u.coef 0) t terms))

fails_itself : (p : Bool) (n : ℕ) → cond (cond p (not p) (not (not p))) n 0 ≡ 0
fails_itself true n = refl
fails_itself false n = refl

falsified : (terms : List Term) → AllPairs (λ t u. t.lit.variable < u.lit.variable) terms → true_sum (falsifier terms) terms ≡ 0
falsified [] apart = refl
falsified (t ∷ terms) apart =
    let here : cond (eqb t.lit.variable t.lit.variable) (not t.lit.positive) (falsifier terms t.lit.variable) ≡ not t.lit.positive = grind (arith, nat_tests) in
    let rest : true_sum (falsifier (t ∷ terms)) terms ≡ true_sum (falsifier terms) terms = agree_sum (falsifier (t ∷ terms)) (falsifier terms) terms (λ k d h. let lt : t.lit.variable < (get_or terms k d).lit.variable = apart 0 (suc k) d (omega arith) (omega arith) in grind (arith, nat_tests)) in
    let tail = falsified terms (λ i j d lt h. apart (suc i) (suc j) d (omega arith) (omega arith)) in
    sum_by-cons (λ (u : Term). cond (holds (falsifier (t ∷ terms)) u.lit) u.coef 0) t terms ∙ rw (here, fails_itself t.lit.positive t.coef, rest, tail) refl

pub some_assignment_fails : (c : AtLeast) → IsNormal c → (full : ℕ → Bool) × ¬ (IsSatisfied full c)
some_assignment_fails c n = (falsifier c.terms, λ h. absurd (omega (arith, n.some_degree, falsified c.terms apart)))
  where
    apart : AllPairs (λ t u. t.lit.variable < u.lit.variable) c.terms
    apart i j d lt h =
        let pairs = AllPairs-from_increasing (map (λ u. u.lit.variable) c.terms) n.rising i j 0 lt (rw (length-map c.terms (λ (u : Term). u.lit.variable)) h) in
        let one : get_or (map (λ u. u.lit.variable) c.terms) i 0 ≡ (get_or c.terms i d).lit.variable = get_or-map (λ (u : Term). u.lit.variable) c.terms i d 0 (omega arith) in
        let two : get_or (map (λ u. u.lit.variable) c.terms) j 0 ≡ (get_or c.terms j d).lit.variable = get_or-map (λ (u : Term). u.lit.variable) c.terms j d 0 h in
        omega (arith, pairs, one, two)

pub normalised_some : (terms : List SignedTerm) (degree : ℤ) (c : AtLeast) → IsNormalised terms degree c → IsNormal c → (full : ℕ → Bool) × ¬ (IsSatisfiedSigned full terms degree)
normalised_some terms degree c n normal =
    let some = some_assignment_fails c normal in
    (some.0, λ h. some.1 ((normalised_same terms degree c n some.0).1 h))

moderate_size : (z : ℤ) → IsModerate z → unsigned_abs z ≤ 2 ^ 40
moderate_size (pos n) m = let high = m.1 in omega (arith, ints)
moderate_size (negsuc n) m = let low = m.0 in omega (arith, ints)

-- the sizes of moderate coefficients
pub moderate_sizes : (terms : List SignedTerm) → length terms ≤ 8194 → All (λ t. IsModerate t.coef) terms → sum_by signed_size terms ≤ 8194 * 2 ^ 40
moderate_sizes terms few each =
    let le = sum_by-le signed_size (2 ^ 40) terms (λ k d h. moderate_size (get_or terms k d).coef (each k d h)) in
    omega (arith, le, mul-le-mul_right (2 ^ 40) few)
