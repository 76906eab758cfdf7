-- How many units match, by the numbers of those that do.
use Rattle.std.proofs.Common.{◌≡◌, ℕ, zero, suc, ◌+◌, ◌<◌, ◌≤◌, inl, inr, true, false, List, [], ◌∷◌, length, get_or, refl, sym, ◌∙◌, ap, subst, zero-add, arith}
use Rattle.std.specs.Prelude.{◌↔◌, Bool, IsTrue, Option, Some, None, AllPairs, Contains}
use Rattle.std.proofs.lemmas.Bool.{cases_lt}
use Rattle.std.proofs.lemmas.List.Elements.{All-contains}
use Rattle.ldap_filter.specs.EnvPairs.{EnvPair}
use Rattle.unit_catalog.specs.At.{HasAt}
use Rattle.unit_catalog.specs.Providers.{AreProviders}
use Rattle.unit_model.specs.Applies.{filter_true}
use Rattle.unit_model.specs.Matches.{Matches}
use Rattle.unit_model.specs.Met.{HasCount, IsMet}
use Rattle.unit_model.specs.declared.required.Required.{Required}
use Rattle.unit_model.specs.declared.unit.Unit.{Unit as Package}

abbrev Rising : List ℕ → Type 0
Rising numbers = AllPairs (λ m n. m < n) numbers

rising_tail : (m : ℕ) (ms : List ℕ) → Rising (m ∷ ms) → Rising ms
rising_tail m ms rising = λ i j d below inside. rising (suc i) (suc j) d (omega arith) (omega arith)

least : (m : ℕ) (ms : List ℕ) → Rising (m ∷ ms) → (x : ℕ) → Contains (m ∷ ms) x → m ≤ x
least m ms rising x (zero, inside, same) = omega arith
least m ms rising x (suc i, inside, same) = let below : m < get_or ms i x = rising 0 (suc i) x (omega arith) inside in omega arith

behind : (m : ℕ) (ms : List ℕ) → Rising (m ∷ ms) → (x : ℕ) → Contains ms x → m < x
behind m ms rising x has = let below : m < get_or ms has.0 x = rising 0 (suc has.0) x (omega arith) (let inside = has.1 in omega arith) in let same = has.2 in omega arith

to_front : (m : ℕ) (ms : List ℕ) (x : ℕ) → Contains ms x → Contains (m ∷ ms) x
to_front m ms x has = (suc has.0, (let inside = has.1 in omega arith), has.2)

in_tail : (m : ℕ) (ms : List ℕ) (x : ℕ) → (m ≡ x → ⊥) → Contains (m ∷ ms) x → Contains ms x
in_tail m ms x other (zero, inside, same) = absurd (other same)
in_tail m ms x other (suc i, inside, same) = (i, omega arith, same)

-- the property at a number, counted from this one on
abbrev From : ℕ → List Package → (Package → Type 0) → ℕ → Type 0
From o units P x = (k : ℕ) × (x ≡ o + k) × HasAt units P k

shifted : (P : Package → Type 0) (u : Package) (us : List Package) (o x : ℕ) → o < x → From o (u ∷ us) P x → From (o + 1) us P x
shifted P u us o x above (zero, place, has) = absurd (omega arith)
shifted P u us o x above (suc k, place, has) = (k, omega arith, record { unit = has.unit; here = has.here; has = has.has })

first_has : (P : Package → Type 0) (u : Package) (us : List Package) (o x : ℕ) → x ≤ o → From o (u ∷ us) P x → P u
first_has P u us o x low (zero, place, has) = let same : u ≡ has.unit = ap (λ o. unwrap u o) has.here in subst P (sym same) has.has
  where
    unwrap : Package → Option Package → Package
    unwrap d None = d
    unwrap d (Some v) = v
first_has P u us o x low (suc k, place, has) = absurd (omega arith)

next : (P : Package → Type 0) (u : Package) (us : List Package) (k : ℕ) → HasAt us P k → HasAt (u ∷ us) P (suc k)
next P u us k has = record { unit = has.unit; here = has.here; has = has.has }

counted_from : (P : Package → Type 0) (units : List Package) (numbers : List ℕ) (o : ℕ) → Rising numbers
    → ((x : ℕ) → Contains numbers x → From o units P x) → ((k : ℕ) → HasAt units P k → Contains numbers (o + k)) → HasCount P units (length numbers)
counted_from P [] [] o rising each every = refl
counted_from P [] (m ∷ ms) o rising each every =
    let from = each m (0, omega arith, refl) in
    let here = from.2.here in
    absurd (cc)
counted_from P (u ∷ us) [] o rising each every =
    inr (
      λ has. let there = every 0 (record { unit = u; here = refl; has = has }) in let inside = there.1 in omega arith,
      counted_from P us [] (o + 1) rising
          (λ x has. absurd (let inside = has.1 in omega arith))
          (λ k has. absurd (let there = every (suc k) (next P u us k has) in let inside = there.1 in omega arith)),
    )
counted_from P (u ∷ us) (m ∷ ms) o rising each every =
    let first : From o (u ∷ us) P m = each m (0, omega arith, refl) in
    elim (cases_lt o m) [
      | inl high ↦
          inr (
            λ has. let low = least m ms rising (o + 0) (every 0 (record { unit = u; here = refl; has = has })) in omega arith,
            counted_from P us (m ∷ ms) (o + 1) rising
                (λ x has. shifted P u us o x (let low = least m ms rising x has in omega arith) (each x has))
                (λ k has. subst (Contains (m ∷ ms)) (omega arith) (every (suc k) (next P u us k has))),
          )
      | inr low ↦
          let place : m ≡ o = let at = first.1 in omega arith in
          inl (
            first_has P u us o m low first,
            length ms,
            refl,
            counted_from P us ms (o + 1) (rising_tail m ms rising)
                (λ x has. shifted P u us o x (let above = behind m ms rising x has in omega arith) (each x (to_front m ms x has)))
                (λ k has. subst (Contains ms) (omega arith) (in_tail m ms (o + suc k) (λ e. omega arith) (every (suc k) (next P u us k has)))),
          )
    ]

pub providers_count : (units : List Package) (r : Required) (numbers : List ℕ) → AreProviders units r numbers → HasCount (Matches r) units (length numbers)
providers_count units r numbers p =
    counted_from (Matches r) units numbers 0 p.rising
    (λ x has. (x, sym (zero-add x), All-contains (HasAt units (Matches r)) numbers x p.each has))
    (λ k has. subst (Contains numbers) (sym (zero-add k)) (p.every k has))

HasCount-unique : {X : Type 0} (P : X → Type 0) (xs : List X) (n m : ℕ) → HasCount P xs n → HasCount P xs m → n ≡ m
HasCount-unique P [] n m one other = one ∙ sym other
HasCount-unique P (x ∷ xs) n m (inl one) (inl other) = one.2 ∙ (ap (λ k. suc k) (HasCount-unique P xs one.1 other.1 one.3 other.3) ∙ sym other.2)
HasCount-unique P (x ∷ xs) n m (inl one) (inr other) = absurd (other.0 one.0)
HasCount-unique P (x ∷ xs) n m (inr one) (inl other) = absurd (one.0 other.0)
HasCount-unique P (x ∷ xs) n m (inr one) (inr other) = HasCount-unique P xs n m one.1 other.1

-- The count decides where the filter is true.
pub met_by_count : (units : List Package) (r : Required) (env : List EnvPair) (numbers : List ℕ) (b : Bool) → filter_true env r.filter ≡ true → AreProviders units r numbers
    → IsTrue b ↔ ((r.min ≤ length numbers) × (length numbers ≤ r.max)) → IsTrue b ↔ IsMet r units env
met_by_count units r env numbers b asked providers both =
    let counted = providers_count units r numbers providers in (
      λ t. let within = both.0 t in inr (record { count = length numbers; counted = counted; least = within.0; most = within.1 }),
      λ met. elim met [
        | inl unasked ↦ absurd (cc)
        | inr enough ↦
            let same : length numbers ≡ enough.count = HasCount-unique (Matches r) units (length numbers) enough.count counted enough.counted in
            let least = enough.least in
            let most = enough.most in
            both.1 (omega arith, omega arith)
      ],
    )

pub met_unasked : (units : List Package) (r : Required) (env : List EnvPair) (b : Bool) → filter_true env r.filter ≡ false → IsTrue b → IsTrue b ↔ IsMet r units env
met_unasked units r env b unasked t = (λ _. inl unasked, λ _. t)
