-- Terms that are joined by variables, one after the other.
use Rattle.std.proofs.Common.{◌≡◌, ◌≢◌, ℕ, suc, ◌+◌, ◌-◌, ◌<◌, ◌≤◌, Bool, true, false, cond, List, [], ◌∷◌, ◌++◌, length, get_or, take, drop, map, sum_by, pos, ◌+ℤ◌, All, refl, sym, ap, ◌∙◌, ⊎_elim, arith, add-one, drop-cons, length-drop, get_or-drop}
use Rattle.std.specs.List.Sorted.{IsStrictlyIncreasing, IsNonDecreasingBy}
use Rattle.std.proofs.lemmas.Bool.{cases_lt}
use Rattle.std.proofs.lemmas.Int.{ints}
use Rattle.std.proofs.lemmas.List.{get_or_default, map-append, length-map, get_or-map, length_push, take_more, get_or_append_left, get_or-append_right}
use Rattle.std.proofs.lemmas.List.Elements.{All-push, All-head}
use Rattle.std.proofs.lemmas.List.Sums.{sum_by_push}
use Rattle.pb_core.specs.Joined.{joined_sum, joined_share, joined_nothing, weight, size, signed_size, AreJoinedAmong}
use Rattle.pb_core.specs.Normalised.{signed_sum, signed_share, AreSignedAmong}
use Rattle.pb_core.specs.declared.literal.SignedTerm.{SignedTerm}
use Rattle.pb_core.specs.declared.normal_form.Joined.{Joined}
use Rattle.pb_core.proofs.SignedSums.{total_push}

pub rising_push : {X : Type 0} (n : X → ℕ) (xs : List X) (y : X) → IsStrictlyIncreasing (map n xs) → All (λ x. n x < n y) xs → IsStrictlyIncreasing (map n (xs ++ y ∷ []))
rising_push n xs y rising below k within = rw (map-append n xs (y ∷ [])) (⊎_elim old new (cases_lt (k + 1) (length xs)))
  where
    size : length (map n xs) ≡ length xs
    size = length-map xs n

    all_size : k + 1 < length xs + 1
    all_size = rw (map-append n xs (y ∷ []), length_push (map n xs) (n y), length-map xs n) at within

    old : k + 1 < length xs → get_or (map n xs ++ n y ∷ []) k 0 < get_or (map n xs ++ n y ∷ []) (k + 1) 0
    old h =
        let one = get_or_append_left (map n xs) (n y ∷ []) 0 k (omega (arith, size)) in
        let two = get_or_append_left (map n xs) (n y ∷ []) 0 (k + 1) (omega (arith, size)) in
        rw (one, two) (rising k (omega (arith, size)))

    new : length xs ≤ k + 1 → get_or (map n xs ++ n y ∷ []) k 0 < get_or (map n xs ++ n y ∷ []) (k + 1) 0
    new h =
        let one = get_or_append_left (map n xs) (n y ∷ []) 0 k (omega (arith, size, all_size)) in
        let two = get_or-append_right (map n xs) (n y ∷ []) (length xs) (k + 1) 0 size h in
        let at : get_or (map n xs) k 0 ≡ n (get_or xs k y) = get_or-map n xs k y 0 (omega (arith, all_size)) in
        let here : k + 1 - length xs ≡ 0 = omega (arith, all_size) in
        rw (one, two, at, here) (below k y (omega (arith, all_size)))

-- the terms so far are joined, and those of the current variable go on
pub record AreJoined (whole done rest : List SignedTerm) (joined : List Joined) (current : Joined) : Type 0 where
  pub sum : (full : ℕ → Bool) → joined_sum full joined +ℤ joined_share full current ≡ signed_sum full done
  pub rising : IsStrictlyIncreasing (map (λ j. j.variable) joined)
  pub below : All (λ j. j.variable < current.variable) joined
  pub light : weight joined + size current ≤ sum_by signed_size done
  pub next : All (λ t. current.variable ≤ t.lit.variable) rest
  pub among : (variables : ℕ) → AreSignedAmong variables whole → AreJoinedAmong variables joined × (current.variable ≤ variables) × (current.variable ≡ 0 → size current ≡ 0)

nothing_share : (b : Bool) → cond b (pos 0) (pos 0) ≡ pos 0
nothing_share true = refl
nothing_share false = refl

pub join_flush : (whole done rest : List SignedTerm) (joined : List Joined) (current : Joined) (v : ℕ) → AreJoined whole done rest joined current → current.variable < v → All (λ t. v ≤ t.lit.variable) rest → ((variables : ℕ) → AreSignedAmong variables whole → v ≤ variables) → AreJoined whole done rest (joined ++ current ∷ []) (joined_nothing v)
join_flush whole done rest joined current v state rises next within = record {
  sum = λ full. let old = state.sum full in let push = total_push (joined_share full) joined current in let none = nothing_share (full v) in rw (push, none) (omega (arith, ints));
  rising = rising_push (λ j. j.variable) joined current state.rising state.below;
  below = All-push (λ (j : Joined). j.variable < v) joined current (λ k d h. omega (arith, state.below k d h)) rises;
  light = rw (sum_by_push size joined current) (omega (arith, state.light));
  next = next;
  among = λ variables all. (All-push (λ (j : Joined). (j.variable ≤ variables) × (j.variable ≡ 0 → size j ≡ 0)) joined current (state.among variables all).0 ((state.among variables all).1, (state.among variables all).2), within variables all, λ e. refl);
}

pub join_with : (whole done rest : List SignedTerm) (joined : List Joined) (current more : Joined) (t : SignedTerm) → AreJoined whole done (t ∷ rest) joined current → more.variable ≡ current.variable → t.lit.variable ≡ current.variable → ((full : ℕ → Bool) → joined_share full more ≡ joined_share full current +ℤ signed_share full t) → size more ≤ size current + signed_size t → All (λ u. t.lit.variable ≤ u.lit.variable) rest → ((variables : ℕ) → AreSignedAmong variables whole → 0 < t.lit.variable) → AreJoined whole (done ++ t ∷ []) rest joined more
join_with whole done rest joined current more t state same of share light next some = record {
  sum = λ full. let old = state.sum full in let new = share full in rw (total_push (signed_share full) done t) (omega (arith, ints));
  rising = state.rising;
  below = λ k d h. rw same (state.below k d h);
  light = rw (sum_by_push signed_size done t) (omega (arith, light, state.light));
  next = λ k d h. omega (arith, same, of, next k d h);
  among = λ variables all. ((state.among variables all).0, rw same (state.among variables all).1, λ e. absurd (omega (arith, same, of, e, some variables all)));
}

-- the current variable is that of the next term, after the joined terms were put away where it is another
pub data Turned (joined after : List Joined) (current now : Joined) (v : ℕ) : Type 0 where
  same_variable : after ≡ joined → now ≡ current → v ≡ current.variable → Turned joined after current now v
  next_variable : after ≡ joined ++ current ∷ [] → now ≡ joined_nothing v → v ≢ current.variable → Turned joined after current now v

pub join_step : (terms : List SignedTerm) (i : ℕ) (t : SignedTerm) (joined after : List Joined) (current now more : Joined) → i < length terms → t ≡ get_or terms i t → IsNonDecreasingBy (λ u. u.lit.variable) terms → AreJoined terms (take i terms) (drop i terms) joined current → Turned joined after current now t.lit.variable → more.variable ≡ now.variable → ((full : ℕ → Bool) → joined_share full more ≡ joined_share full now +ℤ signed_share full t) → size more ≤ size now + signed_size t → AreJoined terms (take (i + 1) terms) (drop (i + 1) terms) after more
join_step terms i t joined after current now more within is rising state turned same share light =
    rw (take_more terms i t within, ← is) (join_with terms (take i terms) (drop (i + 1) terms) after now more t turned_state same here share light later some)
  where
    cons : drop i terms ≡ t ∷ drop (i + 1) terms
    cons = rw add-one (drop-cons terms i t within ∙ ap (λ u. u ∷ drop (suc i) terms) (sym is))

    at : (j : ℕ) (d : SignedTerm) → i ≤ j → j < length terms → t.lit.variable ≤ (get_or terms j d).lit.variable
    at j d le lt = rw (is ∙ get_or_default terms i t d within) (rising i j d le lt)

    from_here : All (λ u. t.lit.variable ≤ u.lit.variable) (drop i terms)
    from_here k d h = rw (get_or-drop i terms k d) (at (i + k) d (omega arith) (omega (arith, rw (length-drop i terms) at h)))

    later : All (λ u. t.lit.variable ≤ u.lit.variable) (drop (i + 1) terms)
    later k d h = rw (get_or-drop (i + 1) terms k d) (at (i + 1 + k) d (omega arith) (omega (arith, rw (length-drop (i + 1) terms) at h)))

    some : (variables : ℕ) → AreSignedAmong variables terms → 0 < t.lit.variable
    some variables all = rw is (all i t within).0

    most : (variables : ℕ) → AreSignedAmong variables terms → t.lit.variable ≤ variables
    most variables all = rw is (all i t within).1

    first_le : current.variable ≤ t.lit.variable
    first_le = All-head (λ (u : SignedTerm). current.variable ≤ u.lit.variable) t (drop (i + 1) terms) (rw cons at state.next)

    turned_state : AreJoined terms (take i terms) (t ∷ drop (i + 1) terms) after now
    turned_state = rw (← cons) (elim turned [ same_variable e f g ↦ rw (e, f) state | next_variable e f g ↦ rw (e, f) (join_flush terms (take i terms) (drop i terms) joined current t.lit.variable state (omega (arith, first_le, g)) from_here most) ])

    here : t.lit.variable ≡ now.variable
    here = elim turned [ same_variable e f g ↦ rw f g | next_variable e f g ↦ rw f refl ]
