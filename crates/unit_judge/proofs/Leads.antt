-- What was marked of what requirements and roots lead to.
use Rattle.std.proofs.Common.{◌≡◌, ℕ, ◌+◌, ◌<◌, ◌≤◌, List, length, get_or, ap, sym, ◌∙◌, subst, arith}
use Rattle.std.specs.Prelude.{Contains, slice_get}
use Rattle.std.proofs.lemmas.List.{get_or_default}
use Rattle.std.proofs.lemmas.Option.{slice_get_within, get_or_from_slice_get}
use Rattle.ldap_filter.specs.EnvPairs.{EnvPair}
use Rattle.unit_catalog.specs.At.{HasAt}
use Rattle.unit_catalog.specs.Named.{IsNew}
use Rattle.unit_catalog.specs.Order.{AreInOrder}
use Rattle.unit_model.specs.Met.{IsMet}
use Rattle.unit_model.specs.declared.name.UnitName.{UnitName}
use Rattle.unit_model.specs.declared.required.Required.{Required}
use Rattle.unit_model.specs.declared.unit.Unit.{Unit as Package}
use Rattle.unit_judge.specs.Judged.{FailsFirst, IsServed, IsUnserved}
use Rattle.unit_judge.specs.Leading.{LeadsToAt, FollowsAt, IsRootAt}
use Rattle.unit_judge.specs.Reaching.{Marks, HasMarked}
use Rattle.unit_judge.specs.declared.reaching.Reached.{Reached}
use Rattle.unit_judge.proofs.Firsts.{all_more, first_here, first_not_all}
use Rattle.unit_judge.proofs.InOrder.{one_place}
use Rattle.unit_judge.proofs.Marking.{still_marked}

-- the first member with a requirement that isn't met
pub unserved_here : (units shown : List Package) (env : List EnvPair) (at : ℕ) (u : Package) (required : List Required) (place : ℕ) → shown ≡ units → at < length shown → u ≡ get_or shown at u → required ≡ u.required
    → (need : Required) × FailsFirst (λ r. IsMet r units env) required place need → ((k : ℕ) (d : Package) → k < at → IsServed units env (get_or shown k d)) → IsUnserved units env u place
unserved_here units shown env at u required place same inside is own found before =
    let P : Required → Type 0 = λ r. IsMet r units env in
    let first : FailsFirst P u.required place found.0 = subst (λ (l : List Required). FailsFirst P l place found.0) own found.1 in
    record {
      member = (at, subst (λ (l : List Package). FailsFirst (IsServed units env) l at u) same (first_here (IsServed units env) shown at u inside is (first_not_all P u.required place found.0 first) before));
      required = found.0;
      requirement = first;
    }

-- One number more.
pub numbers_more : (Kind : ℕ → Type 0) (numbers : List ℕ) (at : ℕ) (old new : Reached) → at < length numbers → Marks Kind old new → ((k d : ℕ) → k < at → HasMarked (λ n. n ≡ get_or numbers k d) old)
    → HasMarked (λ n. n ≡ get_or numbers at 0) new → (k d : ℕ) → k < at + 1 → HasMarked (λ n. n ≡ get_or numbers k d) new
numbers_more Kind numbers at old new inside marks before here =
    let P : ℕ → Type 0 = λ x. HasMarked (λ n. n ≡ x) new in
    all_more P numbers at (get_or numbers at 0) inside (get_or_default numbers at 0 (get_or numbers at 0) inside) here
    (λ k d below. still_marked (λ n. n ≡ get_or numbers k d) Kind old new marks (before k d below))

-- One requirement more.

-- A unit that the requirement at this place leads to is one that its unit leads to.
pub follows : (units : List Package) (env : List EnvPair) (u : Package) (required : List Required) (at : ℕ) (r : Required) → required ≡ u.required → at < length required → r ≡ get_or required at r
    → (n : ℕ) → LeadsToAt units env r n → FollowsAt units env u n
follows units env u required at r own inside is n leads = record {
  unit = leads.1.unit;
  here = leads.1.here;
  has =
      let within : at < length u.required = rw (← own) inside in
      let read : get_or u.required at r ≡ r = ap (λ l. get_or l at r) (sym own) ∙ sym is in
      (at, r, within, read, (tt, leads.0.0, leads.0.1, leads.1.has));
}

pub required_more : (units : List Package) (env : List EnvPair) (u : Package) (required : List Required) (at : ℕ) (r : Required) (old new : Reached) → required ≡ u.required → at < length required → r ≡ get_or required at r
    → Marks (LeadsToAt units env r) old new → HasMarked (LeadsToAt units env r) new → ((k : ℕ) (d : Required) → k < at → HasMarked (LeadsToAt units env (get_or u.required k d)) old)
    → (k : ℕ) (d : Required) → k < at + 1 → HasMarked (LeadsToAt units env (get_or u.required k d)) new
required_more units env u required at r old new own inside is marks has before =
    let P : Required → Type 0 = λ q. HasMarked (LeadsToAt units env q) new in
    let within : at < length u.required = rw (← own) inside in
    let read : r ≡ get_or u.required at r = is ∙ ap (λ l. get_or l at r) own in
    all_more P u.required at r within read has (λ k d below. still_marked (LeadsToAt units env (get_or u.required k d)) _ old new marks (before k d below))

-- All requirements were followed.
pub required_all : (units : List Package) (env : List EnvPair) (u : Package) (at : ℕ) (reached : Reached) → length u.required ≤ at → ((k : ℕ) (d : Required) → k < at → HasMarked (LeadsToAt units env (get_or u.required k d)) reached)
    → HasMarked (FollowsAt units env u) reached
required_all units env u at reached whole each n within led =
    let asked = led.has in
    let inside = asked.2 in
    let here : HasMarked (LeadsToAt units env asked.1) reached =
    subst (λ (r : Required). HasMarked (LeadsToAt units env r) reached) asked.3 (each asked.0 asked.1 (omega arith)) in
    here n within ((asked.4.1, asked.4.2), record { unit = led.unit; here = led.here; has = asked.4.3 })

-- One root more.

pub root_here : (units : List Package) (roots : List UnitName) (at : ℕ) (root : UnitName) (place : ℕ) → at < length roots → root ≡ get_or roots at root → HasAt units (λ u. u.name ≡ root) place
    → (n : ℕ) → n ≡ place → IsRootAt units roots n
root_here units roots at root place inside is has n same = record {
  unit = has.unit;
  here = ap (slice_get units) same ∙ has.here;
  has = subst (Contains roots) (sym has.has) (at, inside, sym is);
}

pub roots_more : (units : List Package) (roots : List UnitName) (at : ℕ) (root : UnitName) (place : ℕ) (old new : Reached) → AreInOrder units → at < length roots → root ≡ get_or roots at root → HasAt units (λ u. u.name ≡ root) place
    → Marks (λ n. n ≡ place) old new → HasMarked (λ n. n ≡ place) new → ((k : ℕ) (d : UnitName) → k < at → HasMarked (HasAt units (λ u. u.name ≡ get_or roots k d)) old)
    → (k : ℕ) (d : UnitName) → k < at + 1 → HasMarked (HasAt units (λ u. u.name ≡ get_or roots k d)) new
roots_more units roots at root place old new order inside is found marks has before =
    let P : UnitName → Type 0 = λ name. HasMarked (HasAt units (λ u. u.name ≡ name)) new in
    all_more P roots at root inside is
    (λ n within named. has n within (one_place units order n place named.unit found.unit named.here found.here (named.has ∙ sym found.has)))
    (λ k d below. still_marked (HasAt units (λ u. u.name ≡ get_or roots k d)) _ old new marks (before k d below))

-- a root that no unit has the name of
pub roots_same : (units : List Package) (roots : List UnitName) (at : ℕ) (root : UnitName) (reached : Reached) → at < length roots → root ≡ get_or roots at root → IsNew units root
    → ((k : ℕ) (d : UnitName) → k < at → HasMarked (HasAt units (λ u. u.name ≡ get_or roots k d)) reached)
    → (k : ℕ) (d : UnitName) → k < at + 1 → HasMarked (HasAt units (λ u. u.name ≡ get_or roots k d)) reached
roots_same units roots at root reached inside is new before =
    let P : UnitName → Type 0 = λ name. HasMarked (HasAt units (λ u. u.name ≡ name)) reached in
    all_more P roots at root inside is
    (λ n within named. absurd (new n named.unit (slice_get_within units n named.unit named.here) (ap (λ (u : Package). u.name) (get_or_from_slice_get units n named.unit named.unit named.here) ∙ named.has)))
    before

pub roots_all : (units : List Package) (roots : List UnitName) (at : ℕ) (reached : Reached) → length roots ≤ at → ((k : ℕ) (d : UnitName) → k < at → HasMarked (HasAt units (λ u. u.name ≡ get_or roots k d)) reached)
    → HasMarked (IsRootAt units roots) reached
roots_all units roots at reached whole each n within root =
    let inside = root.has.1 in
    each root.has.0 root.unit.name (omega arith) n within (record { unit = root.unit; here = root.here; has = sym root.has.2 })
