-- What roots, requirements and units lead to, by number.
use Rattle.std.proofs.Common.{◌≡◌, ℕ, ◌<◌, ◌⊎◌, inl, inr, Some, None, List, length, get_or, refl, sym, ap, ◌∙◌, subst}
use Rattle.std.specs.Prelude.{Option, Any, Contains, slice_get}
use Rattle.std.proofs.lemmas.Bool.{cases_order}
use Rattle.std.proofs.lemmas.Option.{slice_get_within, get_or_from_slice_get, same_Some}
use Rattle.unit_model.specs.Matches.{Matches}
use Rattle.unit_model.specs.declared.name.UnitName.{UnitName}
use Rattle.unit_model.specs.declared.required.Required.{Required}
use Rattle.unit_model.specs.declared.unit.Unit.{Unit as Package}
use Rattle.unit_catalog.specs.At.{HasAt}
use Rattle.unit_catalog.specs.Named.{HasDistinctNames, IsNew, IsNumberOf}
use Rattle.unit_catalog.specs.Providers.{AreProviders}
use Rattle.unit_slicer.specs.Adding.{Applies, IsFollowed, IsOwn, IsRootOf, IsRoot, IsProvider, IsLedTo, IsNext}
use Rattle.unit_slicer.specs.Way.{IsAmong}
use Rattle.unit_slicer.specs.declared.way.Way.{Way}

-- units of one name have one number
pub one_number : (units : List Package) → HasDistinctNames units → (m n : ℕ) (u v : Package) → slice_get units m ≡ Some u → slice_get units n ≡ Some v → u.name ≡ v.name → m ≡ n
one_number units distinct m n u v first second same = by_order (cases_order m n)
  where
    low : m < length units
    low = slice_get_within units m u first

    high : n < length units
    high = slice_get_within units n v second

    at_m : get_or units m u ≡ u
    at_m = get_or_from_slice_get units m u u first

    at_n : get_or units n u ≡ v
    at_n = get_or_from_slice_get units n v u second

    names : (get_or units m u).name ≡ (get_or units n u).name
    names = ap (λ (w : Package). w.name) at_m ∙ (same ∙ sym (ap (λ (w : Package). w.name) at_n))

    by_order : (m ≡ n) ⊎ ((m < n) ⊎ (n < m)) → m ≡ n
    by_order (inl equal) = equal
    by_order (inr (inl below)) = absurd (distinct m n u below high names)
    by_order (inr (inr above)) = absurd (distinct n m u above low (sym names))

-- a look-up that found none
pub no_number : (units : List Package) (root : UnitName) (answer : Option ℕ) → ((m : ℕ) → answer ≡ Some m → ⊥) → IsNumberOf units root answer → IsNew units root
no_number units root None other new = new
no_number units root (Some m) other at = absurd (other m refl)

module _ (way : Way) where
  abbrev Units : List Package
  Units = way.catalog.now

  abbrev IsThere : ℕ → Type 0
  IsThere n = IsAmong way.among n × HasAt way.catalog.now (Applies way.env.now) n

  pub own_of : (m : ℕ) → IsThere m → (n : ℕ) → n ≡ m → IsOwn way m n
  own_of m at n same = (same, subst (IsAmong way.among) (sym same) at.0, subst (HasAt Units (Applies way.env.now)) (sym same) at.1)

  pub not_own : (m : ℕ) → (IsThere m → ⊥) → (n : ℕ) → IsOwn way m n → ⊥
  not_own m none n own = none (subst (IsAmong way.among) own.0 own.1, subst (HasAt Units (Applies way.env.now)) own.0 own.2)

  pub root_of_own : (root : UnitName) (m : ℕ) → HasAt Units (λ u. u.name ≡ root) m → (n : ℕ) → IsOwn way m n → IsRootOf way root n
  root_of_own root m named n own =
      let at : slice_get Units m ≡ Some own.2.unit = subst (λ k. slice_get Units k ≡ Some own.2.unit) own.0 own.2.here in
      let same : named.unit ≡ own.2.unit = same_Some named.unit own.2.unit (sym named.here ∙ at) in
      (own.1, record { unit = own.2.unit; here = own.2.here; has = (subst (λ (v : Package). v.name ≡ root) same named.has, own.2.has) })

  pub own_of_root : HasDistinctNames Units → (root : UnitName) (m : ℕ) → HasAt Units (λ u. u.name ≡ root) m → (n : ℕ) → IsRootOf way root n → IsOwn way m n
  own_of_root distinct root m named n is = (
    one_number Units distinct n m is.1.unit named.unit is.1.here named.here (is.1.has.0 ∙ sym named.has),
    is.0,
    record { unit = is.1.unit; here = is.1.here; has = is.1.has.1 },
  )

  pub no_root : (root : UnitName) → IsNew Units root → (n : ℕ) → IsRootOf way root n → ⊥
  no_root root new n is =
      let at = is.1 in
      new n at.unit (slice_get_within Units n at.unit at.here) (ap (λ (u : Package). u.name) (get_or_from_slice_get Units n at.unit at.unit at.here) ∙ at.has.0)

  pub root_of_any : (roots : List UnitName) (n : ℕ) → Any (λ root. IsRootOf way root n) roots → IsRoot way roots n
  root_of_any roots n any =
      let is = any.4.1 in
      let has : get_or roots any.0 is.unit.name ≡ is.unit.name = subst (λ (name : UnitName). get_or roots any.0 name ≡ name) (sym is.has.0) any.3 in
      (any.4.0, record { unit = is.unit; here = is.here; has = ((any.0, any.2, has), is.has.1) })

  pub any_of_root : (roots : List UnitName) (n : ℕ) → IsRoot way roots n → Any (λ root. IsRootOf way root n) roots
  any_of_root roots n is =
      let at = is.1 in
      let has = at.has.0 in
      (has.0, at.unit.name, has.1, has.2, (is.0, record { unit = at.unit; here = at.here; has = (refl, at.has.1) }))

  pub provider_of_any : (r : Required) (providers : List ℕ) → AreProviders Units r providers → IsFollowed way r → (n : ℕ) → Any (λ m. IsOwn way m n) providers → IsProvider way r n
  provider_of_any r providers are followed n any =
      let own = any.4 in
      let matching : HasAt Units (Matches r) any.1 = subst (HasAt Units (Matches r)) any.3 (are.each any.0 any.1 any.2) in
      let at : slice_get Units any.1 ≡ Some own.2.unit = subst (λ k. slice_get Units k ≡ Some own.2.unit) own.0 own.2.here in
      let same : matching.unit ≡ own.2.unit = same_Some matching.unit own.2.unit (sym matching.here ∙ at) in
      (followed, (own.1, record { unit = own.2.unit; here = own.2.here; has = (subst (Matches r) same matching.has, own.2.has) }))

  pub any_of_provider : (r : Required) (providers : List ℕ) → AreProviders Units r providers → (n : ℕ) → IsProvider way r n → Any (λ m. IsOwn way m n) providers
  any_of_provider r providers are n is =
      let at = is.1.1 in
      let listed : Contains providers n = are.every n (record { unit = at.unit; here = at.here; has = at.has.0 }) in
      (listed.0, n, listed.1, listed.2, (refl, is.1.0, record { unit = at.unit; here = at.here; has = at.has.1 }))

  pub led_of_any : (u : Package) (n : ℕ) → Any (λ r. IsProvider way r n) u.required → IsLedTo way u n
  led_of_any u n any =
      let followed = any.4.0 in
      let at = any.4.1.1 in
      (any.4.1.0, record { unit = at.unit; here = at.here; has = ((any.0, any.1, any.2, any.3, (followed.0, followed.1, followed.2, at.has.0)), at.has.1) })

  pub any_of_led : (u : Package) (n : ℕ) → IsLedTo way u n → Any (λ r. IsProvider way r n) u.required
  any_of_led u n is =
      let at = is.1 in
      let leads = at.has.0 in
      let followed = leads.4 in
      (leads.0, leads.1, leads.2, leads.3, ((followed.0, followed.1, followed.2), (is.0, record { unit = at.unit; here = at.here; has = (followed.3, at.has.1) })))

  pub next_of_led : (m : ℕ) (u : Package) → slice_get Units m ≡ Some u → (n : ℕ) → IsLedTo way u n → IsNext way m n
  next_of_led m u here n led = record { unit = u; here = here; has = led }

  pub led_of_next : (m : ℕ) (u : Package) → slice_get Units m ≡ Some u → (n : ℕ) → IsNext way m n → IsLedTo way u n
  led_of_next m u here n next =
      let same : next.unit ≡ u = same_Some next.unit u (sym next.here ∙ here) in
      subst (λ (v : Package). IsLedTo way v n) same next.has

  pub no_next : (m : ℕ) → slice_get Units m ≡ None → (n : ℕ) → IsNext way m n → ⊥
  no_next m none n next = let at = next.here in cc
