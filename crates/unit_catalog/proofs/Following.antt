-- How the indexes follow the units.
use Rattle.std.proofs.Common.{◌≡◌, ℕ, ◌+◌, ◌<◌, ◌≤◌, ◌⊎◌, inl, inr, List, [], ◌∷◌, ◌++◌, length, get_or, ap, sym, ◌∙◌, subst, arith, length-append}
use Rattle.std.specs.Prelude.{Some, Contains, slice_get}
use Rattle.std.proofs.lemmas.Bool.{cases_order}
use Rattle.std.proofs.lemmas.List.{get_or_append_left, get_or_default}
use Rattle.std.proofs.Math.Seq.{get_or-append_seam}
use Rattle.std.proofs.lemmas.Option.{slice_get-get_or, slice_get_within, get_or_from_slice_get}
use Rattle.ldap_filter.specs.EnvPairs.{EnvPair}
use Rattle.unit_model.specs.Matches.{Matches}
use Rattle.unit_model.specs.declared.name.UnitName.{UnitName}
use Rattle.unit_model.specs.declared.provided.Provided.{Provided}
use Rattle.unit_model.specs.declared.required.Required.{Required}
use Rattle.unit_model.specs.declared.unit.Unit.{Unit as Package}
use Rattle.unit_catalog.specs.Greatest.{IsOfId, Updates}
use Rattle.unit_catalog.specs.Keys.{text_key, pair_key, name_key}
use Rattle.unit_catalog.specs.Entered.{AreEntered}
use Rattle.unit_catalog.specs.Listed.{listed, AreRising, Keeps}
use Rattle.unit_catalog.specs.Indexed.{AllRise, LeadTo, AllKeep, AllKeepBelow, AreIndexed}
use Rattle.unit_catalog.specs.Led.{AreLedTo}
use Rattle.unit_catalog.specs.declared.index.Index.{Index}
use Rattle.unit_catalog.specs.declared.indexes.Indexes.{Indexes}
use Rattle.unit_catalog.proofs.Finding.{HasAll}
use Rattle.unit_catalog.proofs.Numbers.{rises_higher}

pub all_rise_higher : (low high : ℕ) (indexes : Indexes) → low ≤ high → AllRise low indexes → AllRise high indexes
all_rise_higher low high indexes below rise = record {
  names = λ key. rises_higher low high _ below (rise.names key);
  ids = λ key. rises_higher low high _ below (rise.ids key);
  updates = λ key. rises_higher low high _ below (rise.updates key);
  provided = λ key. rises_higher low high _ below (rise.provided key);
}

pub lead_on : (old new : Indexes) (u : Package) (n : ℕ) → AllKeep old new → LeadTo old u n → LeadTo new u n
lead_on old new u n kept lead = record {
  name = kept.names _ n lead.name;
  id = kept.ids _ n lead.id;
  update = kept.updates _ n lead.update;
  provided = λ k d inside. kept.provided _ n (lead.provided k d inside);
}

pub lead_on_below : (top : ℕ) (old new : Indexes) (u : Package) (n : ℕ) → n < top → AllKeepBelow top old new → LeadTo old u n → LeadTo new u n
lead_on_below top old new u n below kept lead = record {
  name = kept.names _ n below lead.name;
  id = kept.ids _ n below lead.id;
  update = kept.updates _ n below lead.update;
  provided = λ k d inside. kept.provided _ n below (lead.provided k d inside);
}

-- a unit of a list with one more is one of the list, or this one
pub at_pushed : (units : List Package) (unit u : Package) (n : ℕ) → slice_get (units ++ unit ∷ []) n ≡ Some u → (slice_get units n ≡ Some u) ⊎ ((n ≡ length units) × (unit ≡ u))
at_pushed units unit u n here =
    let long = length-append units (unit ∷ []) in
    let inside : n < length (units ++ unit ∷ []) = slice_get_within (units ++ unit ∷ []) n u here in
    let read : get_or (units ++ unit ∷ []) n u ≡ u = get_or_from_slice_get (units ++ unit ∷ []) n u u here in
    by_place (cases_order n (length units)) inside long read
  where
    by_place : (n ≡ length units) ⊎ ((n < length units) ⊎ (length units < n)) → n < length (units ++ unit ∷ []) → length (units ++ unit ∷ []) ≡ length units + length (unit ∷ []) → get_or (units ++ unit ∷ []) n u ≡ u → (slice_get units n ≡ Some u) ⊎ ((n ≡ length units) × (unit ≡ u))
    by_place (inl end) inside long read =
        inr (end, sym (get_or-append_seam units unit [] u) ∙ (ap (λ i. get_or (units ++ unit ∷ []) i u) (sym end) ∙ read))
    by_place (inr (inl low)) inside long read =
        inl (slice_get-get_or units n u low ∙ ap Some (sym (get_or_append_left units (unit ∷ []) u n low) ∙ read))
    by_place (inr (inr high)) inside long read = absurd (omega arith)

-- one more unit, which the new indexes lead to
pub indexed_more : (units : List Package) (unit : Package) (old new : Indexes) → AreIndexed units old → AllKeep old new → AllRise (length units + 1) new → LeadTo new unit (length units)
    → AreIndexed (units ++ unit ∷ []) new
indexed_more units unit old new indexed kept rise lead =
    let long = length-append units (unit ∷ []) in
    record {
      rise = all_rise_higher (length units + 1) (length (units ++ unit ∷ []) + 1) new (omega arith) rise;
      lead = λ n u here.
          elim (at_pushed units unit u n here) [
            | inl before ↦ lead_on old new u n kept (indexed.lead n u before)
            | inr last ↦ subst (λ v. LeadTo new v n) last.1 (subst (λ m. LeadTo new unit m) (sym last.0) lead)
          ];
    }

-- a unit that was refused leaves the others led to
pub indexed_same : (units : List Package) (old entered new : Indexes) → AreIndexed units old → AllKeep old entered → AllKeepBelow (length units) entered new → AllRise (length units + 1) new
    → AreIndexed units new
indexed_same units old entered new indexed kept below rise = record {
  rise = rise;
  lead = λ n u here. lead_on_below (length units) entered new u n (slice_get_within units n u here) below (lead_on old entered u n kept (indexed.lead n u here));
}

-- What the indexes list at a key has all units that it is the key of.

pub names_lead : (units : List Package) (indexes : Indexes) → AreIndexed units indexes → (name : UnitName) → HasAll units (λ u. u.name ≡ name) (listed indexes.names (name_key name))
names_lead units indexes indexed name = λ n u here same. subst (λ (m : UnitName). Contains (listed indexes.names (name_key m)) n) same (indexed.lead n u here).name

pub ids_lead : (units : List Package) (indexes : Indexes) → AreIndexed units indexes → (id : List ℕ) (env : List EnvPair) → HasAll units (IsOfId id env) (listed indexes.ids (text_key id))
ids_lead units indexes indexed id env = λ n u here wanted. subst (λ (text : List ℕ). Contains (listed indexes.ids (text_key text)) n) wanted.same (indexed.lead n u here).id

pub updates_lead : (units : List Package) (indexes : Indexes) → AreIndexed units indexes → (name : UnitName) (env : List EnvPair) → HasAll units (Updates name env) (listed indexes.updates (text_key name.id))
updates_lead units indexes indexed name env = λ n u here wanted. subst (λ (text : List ℕ). Contains (listed indexes.updates (text_key text)) n) wanted.same (indexed.lead n u here).update

pub provided_led : (units : List Package) (indexes : Indexes) → AreIndexed units indexes → AreLedTo units indexes.provided
provided_led units indexes indexed = record { rise = λ key. (indexed.rise.provided key).order; lead = λ n u here. (indexed.lead n u here).provided }

pub provided_lead : (units : List Package) (provided : Index) → AreLedTo units provided → (r : Required) → HasAll units (Matches r) (listed provided (pair_key r.namespace r.name))
provided_lead units provided led r = λ n u here matches.
    let p = matches.1 in
    let entered : Contains (listed provided (pair_key (get_or u.provided matches.0 p).namespace (get_or u.provided matches.0 p).name)) n = led.lead n u here matches.0 p matches.2 in
    let own : Contains (listed provided (pair_key p.namespace p.name)) n = subst (λ (q : Provided). Contains (listed provided (pair_key q.namespace q.name)) n) matches.3 entered in
    subst (λ (name : List ℕ). Contains (listed provided (pair_key r.namespace name)) n) matches.4.name
    (subst (λ (namespace : List ℕ). Contains (listed provided (pair_key namespace p.name)) n) matches.4.namespace own)

-- one more unit that an index of capabilities leads to
pub led_more : (units : List Package) (old new : Index) (place : ℕ) (unit : Package) → place < length units → unit ≡ get_or units place unit
    → ((n : ℕ) (u : Package) → n < place → slice_get units n ≡ Some u → AreEntered old u.provided n) → Keeps old new → AreEntered new unit.provided place
    → (n : ℕ) (u : Package) → n < place + 1 → slice_get units n ≡ Some u → AreEntered new u.provided n
led_more units old new place unit inside is before kept entered n u below here =
    elim (cases_order n place) [
      | inl at ↦
          let same : unit ≡ u = is ∙ (get_or_default units place unit u inside ∙ (ap (λ i. get_or units i u) (sym at) ∙ get_or_from_slice_get units n u u here)) in
          subst (λ (v : Package). AreEntered new v.provided n) same (subst (λ m. AreEntered new unit.provided m) (sym at) entered)
      | inr (inl early) ↦ λ k d within. kept _ n (before n u early here k d within)
      | inr (inr late) ↦ absurd (omega arith)
    ]

pub led_all : (units : List Package) (index : Index) (place : ℕ) → AreRising place index → ((n : ℕ) (u : Package) → n < place → slice_get units n ≡ Some u → AreEntered index u.provided n) → length units ≤ place
    → AreLedTo units index
led_all units index place rise lead whole = record {
  rise = λ key. (rise key).order;
  lead = λ n u here. lead n u (let inside = slice_get_within units n u here in omega arith) here;
}
