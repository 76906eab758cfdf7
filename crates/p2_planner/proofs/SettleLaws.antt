-- What becomes of optional roots, step by step and in the end.
use Rattle.std.proofs.Common.{ℕ, inl, inr, Bool, List, [], ◌∷◌, ◌++◌, get_or, refl, sym, ap, subst}
use Rattle.std.specs.Prelude.{All, Contains}
use Rattle.std.proofs.lemmas.List.Elements.{All-nil, All-cons, All-head, All-tail, All-contains, Contains-get_or}
use Rattle.ldap_filter.specs.EnvPairs.{EnvPair}
use Rattle.unit_model.specs.Valid.{names, IsValid}
use Rattle.unit_model.specs.declared.name.UnitName.{UnitName}
use Rattle.unit_model.specs.declared.unit.Unit.{Unit as Package}
use Rattle.pb_rows.specs.Members.{selected}
use Rattle.p2_planner.specs.Roots.{AreRising, with_name}
use Rattle.p2_planner.specs.Selecting.{SomeIsValid, IsTooLarge}
use Rattle.p2_planner.specs.Settling.{IsLeftOut, AreSettled}
use Rattle.p2_planner.specs.declared.planned.LeftOut.{LeftOut}
use Rattle.p2_planner.proofs.RootLaws.{with_keeps, with_all, with_rises}

-- what is valid for roots is valid for any others that its members have the names of
pub valid_for : (units : List Package) (roots others : List UnitName) (env : List EnvPair) → All (Contains (names units)) others → IsValid units roots env → IsValid units others env
valid_for units roots others env there valid = record {
  distinct = valid.distinct;
  roots = there;
  apply = valid.apply;
  met = valid.met;
  apart = valid.apart;
}

module _ (members : List Package) (env : List EnvPair) (budget : ℕ) where
  -- one more is kept
  pub settled_kept : (before optional after : List UnitName) (left : List LeftOut) (root : UnitName) → AreSettled members env budget before optional after left
      → ¬ (IsTooLarge members (with_name root after) env) → SomeIsValid members (with_name root after) env
      → AreSettled members env budget before (optional ++ root ∷ []) (with_name root after) left
  settled_kept before [] after left root is few some =
      let few' : ¬ (IsTooLarge members (with_name root before) env) = subst (λ (rs : List UnitName). ¬ (IsTooLarge members (with_name root rs) env)) is.0 few in
      let some' : SomeIsValid members (with_name root before) env = subst (λ (rs : List UnitName). SomeIsValid members (with_name root rs) env) is.0 some in
      (few', inl (some', (ap (with_name root) is.0, is.1)))
  settled_kept before (o ∷ optional) after left root is few some = (
    is.0,
    elim is.1 [
      | inl kept ↦ inl (kept.0, settled_kept (with_name o before) optional after left root kept.1 few some)
      | inr out ↦ inr (out.0, out.1, out.2, out.3, settled_kept before optional after out.1 root out.4 few some)
    ],
  )

  -- one more is left out
  pub settled_left : (before optional after : List UnitName) (left : List LeftOut) (root : UnitName) (out : LeftOut) → AreSettled members env budget before optional after left
      → ¬ (IsTooLarge members (with_name root after) env) → IsLeftOut members (with_name root after) env budget root out
      → AreSettled members env budget before (optional ++ root ∷ []) after (left ++ out ∷ [])
  settled_left before [] after left root out is few last =
      let few' : ¬ (IsTooLarge members (with_name root before) env) = subst (λ (rs : List UnitName). ¬ (IsTooLarge members (with_name root rs) env)) is.0 few in
      let last' : IsLeftOut members (with_name root before) env budget root out = subst (λ (rs : List UnitName). IsLeftOut members (with_name root rs) env budget root out) is.0 last in
      (few', inr (out, [], ap (λ (ls : List LeftOut). ls ++ out ∷ []) is.1, last', (is.0, refl)))
  settled_left before (o ∷ optional) after left root out is few last = (
    is.0,
    elim is.1 [
      | inl kept ↦ inl (kept.0, settled_left (with_name o before) optional after left root out kept.1 few last)
      | inr first ↦ inr (first.0, first.1 ++ out ∷ [], ap (λ (ls : List LeftOut). ls ++ out ∷ []) first.2, first.3, settled_left before optional after first.1 root out first.4 few last)
    ],
  )

  -- the roots before are among those after
  pub settled_more : (before optional after : List UnitName) (left : List LeftOut) → AreSettled members env budget before optional after left → (n : UnitName) → Contains before n → Contains after n
  settled_more before [] after left is n has = subst (λ (rs : List UnitName). Contains rs n) (sym is.0) has
  settled_more before (o ∷ optional) after left is n has = elim is.1 [
    | inl kept ↦ settled_more (with_name o before) optional after left kept.1 n (with_keeps o before n has)
    | inr out ↦ settled_more before optional after out.1 out.4 n has
  ]

  -- and the roots after are among these and the optional ones
  pub settled_all : (P : UnitName → Type 0) (before optional after : List UnitName) (left : List LeftOut) → AreSettled members env budget before optional after left → All P before → All P optional → All P after
  settled_all P before [] after left is all others = subst (All P) (sym is.0) all
  settled_all P before (o ∷ optional) after left is all others =
      let first = All-head P o optional others in
      let later = All-tail P o optional others in
      elim is.1 [
        | inl kept ↦ settled_all P (with_name o before) optional after left kept.1 (with_all o before P all first) later
        | inr out ↦ settled_all P before optional after out.1 out.4 all later
      ]

  -- rising roots stay rising
  pub settled_rise : (before optional after : List UnitName) (left : List LeftOut) → AreSettled members env budget before optional after left → AreRising before → AreRising after
  settled_rise before [] after left is rising = subst AreRising (sym is.0) rising
  settled_rise before (o ∷ optional) after left is rising = elim is.1 [
    | inl kept ↦ settled_rise (with_name o before) optional after left kept.1 (with_rises o before rising)
    | inr out ↦ settled_rise before optional after out.1 out.4 rising
  ]

  -- what is left out is no member of a selection that is valid for the roots after
  pub left_is_out : (full : ℕ → Bool) (before optional after : List UnitName) (left : List LeftOut) → AreSettled members env budget before optional after left
      → IsValid (selected full members) after env → All (λ out. ¬ (Contains (names (selected full members)) out.root)) left
  left_is_out full before [] after left is valid = subst (All (λ out. ¬ (Contains (names (selected full members)) out.root))) (sym is.1) (All-nil (λ out. ¬ (Contains (names (selected full members)) out.root)))
  left_is_out full before (o ∷ optional) after left is valid = elim is.1 [
    | inl kept ↦ left_is_out full (with_name o before) optional after left kept.1 valid
    | inr out ↦
        let rest = left_is_out full before optional after out.1 out.4 valid in
        let others : All (Contains (names (selected full members))) before =
        λ k d inside. All-contains (Contains (names (selected full members))) after (get_or before k d) valid.roots (settled_more before optional after out.1 out.4 (get_or before k d) (Contains-get_or before k d inside)) in
        let is_out : ¬ (Contains (names (selected full members)) out.0.root) = λ has.
        out.3.refuted.none full (valid_for (selected full members) after (with_name o before) env
        (with_all o before (Contains (names (selected full members))) others (subst (Contains (names (selected full members))) out.3.named has)) valid) in
        subst (All (λ l. ¬ (Contains (names (selected full members)) l.root))) (sym out.2) (All-cons (λ l. ¬ (Contains (names (selected full members)) l.root)) out.0 out.1 is_out rest)
  ]
