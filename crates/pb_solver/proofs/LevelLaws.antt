-- Levels that grow, are taken back and get a constraint.
use Rattle.std.proofs.Common.{◌≡◌, ◌≢◌, ℕ, ◌+◌, ◌-◌, ◌<◌, ◌≤◌, Bool, List, [], ◌∷◌, ◌++◌, length, get_or, take, Option, refl, sym, ap, subst, ◌∙◌, ⊎_elim, arith}
use Rattle.std.proofs.lemmas.Bool.{cases_lt}
use Rattle.std.proofs.lemmas.List.{take-take, get_or-take, get_or_push, get_or_append_left, length-take-le, length_push}
use Rattle.std.proofs.lemmas.List.Elements.{All-push}
use Rattle.pb_core.specs.AtLeast.{AtLeast}
use Rattle.pb_core.specs.Propagates.{IsAtRest}
use Rattle.pb_core.specs.declared.literal.Lit.{Lit}
use Rattle.pb_trail.specs.Along.{values_along, values_before}
use Rattle.pb_trail.specs.Growth.{Extends, Grows, IsDecided}
use Rattle.pb_trail.specs.Rest.{Rests}
use Rattle.pb_trail.specs.Trail.{IsTrail}
use Rattle.pb_trail.specs.declared.trail.Entry.{Entry}
use Rattle.pb_trail.specs.declared.trail.Trail.{Trail}
use Rattle.pb_trail.proofs.RestLaws.{values_earlier}
use Rattle.pb_trail.proofs.TrailLaws.{entry_kept}
use Rattle.clause_learning.specs.Reasons.{ReasonsFrom}
use Rattle.pb_solver.specs.Levels.{AreLevels, RestsAtLevels, values_at, last_of}

rest_same : (cs cs' : List AtLeast) (vs vs' : List (Option Bool)) → cs ≡ cs' → vs ≡ vs' → IsAtRest cs vs → IsAtRest cs' vs'
rest_same cs cs' vs vs' p q rest =
    subst (λ (x : List (Option Bool)). IsAtRest cs' x) q (subst (λ (x : List AtLeast). IsAtRest x vs) p rest)

-- values before a place stay while the trail grows behind it
pub values_kept : (before after : Trail) → Extends before after → (s : ℕ) → s ≤ length before.entries.items → values_at after s ≡ values_at before s
values_kept before after e s h =
    ap (λ (m : ℕ). values_before m after.entries.items s) e.variables ∙ ap (values_along (length before.kept.values)) (sym (take-take s (length before.entries.items) after.entries.items h) ∙ ap (take s) e.same)

rest_kept : (before after : Trail) → Extends before after → (s : ℕ) → s ≤ length before.entries.items → IsAtRest before.kept.constraints (values_at before s) → IsAtRest after.kept.constraints (values_at after s)
rest_kept before after e s h rest =
    rest_same before.kept.constraints after.kept.constraints (values_at before s) (values_at after s) (sym e.constraints) (sym (values_kept before after e s h)) rest

pub AreLevels-grown : (before after : Trail) (starts : List ℕ) → AreLevels before starts → IsTrail after → Grows before after → AreLevels after starts
AreLevels-grown before after starts levels good grows = record {
  good = good;
  rising = levels.rising;
  within = λ i h. omega (arith, levels.within i h, grows.extends.longer);
  at_rest = λ i h. let low = levels.within i h in rest_kept before after grows.extends (get_or starts i 0) (omega (arith, low)) (levels.at_rest i h);
  forced = λ k d h apart. ⊎_elim (λ lt. subst (λ (x : Entry). 0 < x.reason) (sym (entry_kept before after grows.extends k d lt)) (levels.forced k d lt apart)) (λ ge. grows.reasons k d ge h) (cases_lt k (length before.entries.items));
}

-- ---- one more decision

pub AreLevels-decided : (before after : Trail) (starts : List ℕ) (lit : Lit) → AreLevels before starts → IsTrail after → IsDecided before after lit → IsAtRest before.kept.constraints before.kept.values → AreLevels after (starts ++ length before.entries.items ∷ [])
AreLevels-decided before after starts lit levels good decided rest = record {
  good = good;
  rising = rising;
  within = within;
  at_rest = at_rest;
  forced = forced;
}
  where
    n : ℕ
    n = length before.entries.items

    old : (i : ℕ) → i < length starts → get_or (starts ++ length before.entries.items ∷ []) i 0 ≡ get_or starts i 0
    old i h = get_or_append_left starts (length before.entries.items ∷ []) 0 i h

    new : (i : ℕ) → length starts ≡ i → get_or (starts ++ length before.entries.items ∷ []) i 0 ≡ length before.entries.items
    new i h = get_or_push starts (length before.entries.items) 0 i h

    rising : (i j : ℕ) → i < j → j < length (starts ++ length before.entries.items ∷ []) → get_or (starts ++ length before.entries.items ∷ []) i 0 < get_or (starts ++ length before.entries.items ∷ []) j 0
    rising i j lt h =
        let size = length_push starts (length before.entries.items) in
        ⊎_elim (λ below. omega (arith, old i (omega arith), old j below, levels.rising i j lt below)) (λ above. omega (arith, old i (omega (arith, size)), new j (omega (arith, size)), levels.within i (omega (arith, size)))) (cases_lt j (length starts))

    within : (i : ℕ) → i < length (starts ++ length before.entries.items ∷ []) → get_or (starts ++ length before.entries.items ∷ []) i 0 < length after.entries.items
    within i h =
        let size = length_push starts (length before.entries.items) in
        ⊎_elim (λ below. omega (arith, old i below, levels.within i below, decided.extends.longer)) (λ above. omega (arith, new i (omega (arith, size)), decided.some)) (cases_lt i (length starts))

    at_rest : (i : ℕ) → i < length (starts ++ length before.entries.items ∷ []) → IsAtRest after.kept.constraints (values_at after (get_or (starts ++ length before.entries.items ∷ []) i 0))
    at_rest i h =
        let size = length_push starts (length before.entries.items) in
        ⊎_elim (λ below. let low = levels.within i below in subst (λ (s : ℕ). IsAtRest after.kept.constraints (values_at after s)) (sym (old i below)) (rest_kept before after decided.extends (get_or starts i 0) (omega (arith, low)) (levels.at_rest i below)))
        (λ above. subst (λ (s : ℕ). IsAtRest after.kept.constraints (values_at after s)) (sym (new i (omega (arith, size)))) (rest_same before.kept.constraints after.kept.constraints before.kept.values (values_at after (length before.entries.items)) (sym decided.extends.constraints) (values_earlier before after levels.good decided.extends) rest)) (cases_lt i (length starts))

    forced : (k : ℕ) (d : Entry) → k < length after.entries.items → ((i : ℕ) → i < length (starts ++ length before.entries.items ∷ []) → get_or (starts ++ length before.entries.items ∷ []) i 0 ≢ k) → 0 < (get_or after.entries.items k d).reason
    forced k d h apart =
        let size = length_push starts (length before.entries.items) in
        ⊎_elim (λ below. subst (λ (x : Entry). 0 < x.reason) (sym (entry_kept before after decided.extends k d below)) (levels.forced k d below (λ i lt e. apart i (omega (arith, size)) (old i lt ∙ e))))
        (λ above. ⊎_elim (λ behind. decided.reasons k d behind h) (λ here. absurd (apart (length starts) (omega (arith, size)) (new (length starts) refl ∙ omega arith))) (cases_lt (length before.entries.items) k)) (cases_lt k (length before.entries.items))

-- ---- levels that are taken back

pub AreLevels-back : (before after : Trail) (starts : List ℕ) (kept count : ℕ) → AreLevels before starts → IsTrail after → after.kept.constraints ≡ before.kept.constraints → length after.kept.values ≡ length before.kept.values → after.entries.items ≡ take count before.entries.items → kept < length starts → count ≡ get_or starts kept 0 → AreLevels after (take kept starts)
AreLevels-back before after starts kept count levels good constraints variables entries some is = record {
  good = good;
  rising = λ i j lt h. let lt' : j < kept = omega (arith, left, h) in omega (arith, old i (omega arith), old j lt', levels.rising i j lt (omega arith));
  within = λ i h. let lt : i < kept = omega (arith, left, h) in omega (arith, old i lt, levels.rising i kept lt some, is, size);
  at_rest = at_rest;
  forced = forced;
}
  where
    low : count < length before.entries.items
    low = omega (arith, levels.within kept some, is)

    size : length after.entries.items ≡ count
    size = ap length entries ∙ length-take-le count before.entries.items (omega (arith, low))

    left : length (take kept starts) ≡ kept
    left = length-take-le kept starts (omega arith)

    old : (i : ℕ) → i < kept → get_or (take kept starts) i 0 ≡ get_or starts i 0
    old i h = get_or-take kept starts i 0 h

    same : (s : ℕ) → s ≤ count → values_at before s ≡ values_at after s
    same s h =
        ap (values_along (length before.kept.values)) (sym (take-take s count before.entries.items h) ∙ ap (take s) (sym entries)) ∙ ap (λ (m : ℕ). values_before m after.entries.items s) (sym variables)

    at_rest : (i : ℕ) → i < length (take kept starts) → IsAtRest after.kept.constraints (values_at after (get_or (take kept starts) i 0))
    at_rest i h =
        let lt : i < kept = omega (arith, left, h) in
        let low : get_or starts i 0 ≤ count = omega (arith, levels.rising i kept lt some, is) in
        subst (λ (s : ℕ). IsAtRest after.kept.constraints (values_at after s)) (sym (old i lt)) (rest_same before.kept.constraints after.kept.constraints (values_at before (get_or starts i 0)) (values_at after (get_or starts i 0)) (sym constraints) (same (get_or starts i 0) low) (levels.at_rest i (omega arith)))

    forced : (k : ℕ) (d : Entry) → k < length after.entries.items → ((i : ℕ) → i < length (take kept starts) → get_or (take kept starts) i 0 ≢ k) → 0 < (get_or after.entries.items k d).reason
    forced k d h apart =
        let below : k < count = omega (arith, size, h) in
        let here : get_or after.entries.items k d ≡ get_or before.entries.items k d = ap (λ (es : List Entry). get_or es k d) entries ∙ get_or-take count before.entries.items k d below in
        subst (λ (x : Entry). 0 < x.reason) (sym here) (levels.forced k d (omega (arith, low)) (λ i lt e. ⊎_elim (λ staying. apart i (omega (arith, left)) (old i staying ∙ e)) (λ gone. above i lt gone k below e) (cases_lt i kept)))
      where
        above : (i : ℕ) → i < length starts → kept ≤ i → (k : ℕ) → k < count → get_or starts i 0 ≢ k
        above i lt gone k below e =
            ⊎_elim (λ more. absurd (omega (arith, levels.rising kept i more lt, is, e))) (λ here. let same : kept ≡ i = omega arith in absurd (omega (arith, ap (λ (m : ℕ). get_or starts m 0) same, is, e))) (cases_lt kept i)

-- the values that are left are those before the first level that goes
pub back_at_rest : (before after : Trail) (starts : List ℕ) (kept count : ℕ) → AreLevels before starts → IsTrail after → after.kept.constraints ≡ before.kept.constraints → length after.kept.values ≡ length before.kept.values → after.entries.items ≡ take count before.entries.items → kept < length starts → count ≡ get_or starts kept 0 → IsAtRest after.kept.constraints after.kept.values
back_at_rest before after starts kept count levels good constraints variables entries some is =
    let now : values_at before (get_or starts kept 0) ≡ after.kept.values = ap (values_at before) (sym is) ∙ (ap (λ (m : ℕ). values_along m (take count before.entries.items)) (sym variables) ∙ (ap (values_along (length after.kept.values)) (sym entries) ∙ sym good.along)) in
    rest_same before.kept.constraints after.kept.constraints (values_at before (get_or starts kept 0)) after.kept.values (sym constraints) now (levels.at_rest kept some)

-- ---- one more constraint

pub AreLevels-added : (before after : Trail) (starts : List ℕ) (c : AtLeast) → AreLevels before starts → IsTrail after → after.kept.constraints ≡ before.kept.constraints ++ c ∷ [] → after.kept.values ≡ before.kept.values → after.entries.items ≡ before.entries.items → RestsAtLevels before starts c → AreLevels after starts
AreLevels-added before after starts c levels good constraints values entries rests = record {
  good = good;
  rising = levels.rising;
  within = λ i h. omega (arith, levels.within i h, ap length entries);
  at_rest = λ i h. rest_same (before.kept.constraints ++ c ∷ []) after.kept.constraints (values_at before (get_or starts i 0)) (values_at after (get_or starts i 0)) (sym constraints) (same (get_or starts i 0)) (All-push (Rests (values_at before (get_or starts i 0))) before.kept.constraints c (levels.at_rest i h) (rests i h));
  forced = λ k d h apart. subst (λ (es : List Entry). 0 < (get_or es k d).reason) (sym entries) (levels.forced k d (omega (arith, h, ap length entries)) apart);
}
  where
    same : (s : ℕ) → values_at before s ≡ values_at after s
    same s = ap (λ (vs : List (Option Bool)). values_before (length vs) before.entries.items s) (sym values) ∙ ap (λ (es : List Entry). values_before (length after.kept.values) es s) (sym entries)

-- ---- what was forced

pub start-le-last : (trail : Trail) (starts : List ℕ) → AreLevels trail starts → (i : ℕ) → i < length starts → get_or starts i 0 ≤ last_of starts
start-le-last trail starts levels i h =
    ⊎_elim (λ lt. omega (arith, levels.rising i (length starts - 1) lt (omega arith))) (λ ge. let here : i ≡ length starts - 1 = omega arith in omega (arith, ap (λ (m : ℕ). get_or starts m 0) here)) (cases_lt i (length starts - 1))

pub reasons_behind : (trail : Trail) (starts : List ℕ) → AreLevels trail starts → ReasonsFrom trail (last_of starts + 1)
reasons_behind trail starts levels k d low within =
    levels.forced k d within (λ i h e. absurd (omega (arith, start-le-last trail starts levels i h, low, e)))

pub reasons_first : (trail : Trail) (starts : List ℕ) → AreLevels trail starts → (m : ℕ) → ((i : ℕ) → i < length starts → m ≤ get_or starts i 0) → (k : ℕ) (d : Entry) → k < m → k < length trail.entries.items → 0 < (get_or trail.entries.items k d).reason
reasons_first trail starts levels m all k d lt within = levels.forced k d within (λ i h e. absurd (omega (arith, all i h, e)))

-- ---- how many levels stay

-- some level goes, where the last begins at the floor or above
pub some_goes : (starts : List ℕ) (kept floor : ℕ) → kept ≤ length starts → ((i : ℕ) → i < kept → get_or starts i 0 < floor) → 0 < length starts → floor ≤ last_of starts → kept < length starts
some_goes starts kept floor within below some last =
    ⊎_elim (λ lt. lt) (λ ge. absurd (omega (arith, below (length starts - 1) (omega arith), last))) (cases_lt kept (length starts))

pub take_below : (starts : List ℕ) (kept floor : ℕ) → kept < length starts → ((i : ℕ) → i < kept → get_or starts i 0 < floor) → (i : ℕ) → i < length (take kept starts) → get_or (take kept starts) i 0 < floor
take_below starts kept floor some below i h =
    let lt : i < kept = omega (arith, length-take-le kept starts (omega arith), h) in
    omega (arith, get_or-take kept starts i 0 lt, below i lt)
