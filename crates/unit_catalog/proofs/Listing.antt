-- One key of an index is written.
use Rattle.std.proofs.Common.{◌≡◌, ℕ, Bool, true, false, cond, List, [], refl, ap, sym, ◌∙◌, subst, Vec, Global, arith}
use Rattle.std.specs.Prelude.{Option, Some, None, Contains}
use Rattle.std.specs.Map.{lookup}
use Rattle.std.specs.Option.{option_map_or}
use Rattle.std.specs.Ordering.{nat_cmp}
use Rattle.std.specs.BTreeMap.{get, is_at}
use Rattle.std.proofs.lemmas.Map.Lookups.{exact_unsigned}
use Rattle.std.proofs.lemmas.Map.Views.{tells_apart}
use Rattle.unit_catalog.specs.Listed.{listed, RisesBelow}
use Rattle.unit_catalog.specs.declared.index.Index.{Index}

-- What holds between the old and the new numbers of the key, and between equal ones, holds at every key.
pub at_every_key : (R : List ℕ → List ℕ → Type 0) → ((xs : List ℕ) → R xs xs) → (old new : Index) (key : ℕ) (w : Vec ℕ Global)
    → ((q : ℕ) → get nat_cmp new.numbers q ≡ cond (is_at (nat_cmp key) q) (Some w) (get nat_cmp old.numbers q)) → R (listed old key) w.items → (q : ℕ) → R (listed old q) (listed new q)
at_every_key R same old new key w updates here q = by_test (is_at (nat_cmp key) q) refl
  where
    by_test : (b : Bool) → is_at (nat_cmp key) q ≡ b → R (listed old q) (listed new q)
    by_test true at =
        let equal : key ≡ q = tells_apart exact_unsigned key q at in
        let read : get nat_cmp new.numbers q ≡ Some w = updates q ∙ ap (λ b. cond b (Some w) (get nat_cmp old.numbers q)) at in
        let items : listed new q ≡ w.items = ap (λ o. option_map_or (λ v. v.items) o []) read in
        subst (R (listed old q)) (sym items) (subst (λ k. R (listed old k) w.items) equal here)
    by_test false at =
        let read : get nat_cmp new.numbers q ≡ get nat_cmp old.numbers q = updates q ∙ ap (λ b. cond b (Some w) (get nat_cmp old.numbers q)) at in
        let items : listed new q ≡ listed old q = ap (λ o. option_map_or (λ v. v.items) o []) read in
        subst (R (listed old q)) (sym items) (same (listed old q))

-- the numbers of a key that has some
pub rises_found : (top : ℕ) (index : Index) (key : ℕ) (v : Vec ℕ Global) → Some v ≡ get nat_cmp index.numbers key → RisesBelow top (listed index key) → RisesBelow top v.items
rises_found top index key v found rises =
    let P : Option (Vec ℕ Global) → Type 0 = λ o. RisesBelow top (option_map_or (λ w. w.items) o []) in
    subst P (sym found) rises

pub here_found : (R : List ℕ → List ℕ → Type 0) (index : Index) (key : ℕ) (v : Vec ℕ Global) (ys : List ℕ) → Some v ≡ get nat_cmp index.numbers key → R v.items ys → R (listed index key) ys
here_found R index key v ys found here =
    let P : Option (Vec ℕ Global) → Type 0 = λ o. R (option_map_or (λ w. w.items) o []) ys in
    subst P found here

-- a key that has none
pub here_none : (index : Index) (key : ℕ) (ys : List ℕ) → None ≡ get nat_cmp index.numbers key → (n : ℕ) → Contains (listed index key) n → Contains ys n
here_none index key ys none =
    let P : Option (Vec ℕ Global) → Type 0 = λ o. (n : ℕ) → Contains (option_map_or (λ w. w.items) o []) n → Contains ys n in
    subst P none (λ n has. absurd (let inside = has.1 in omega arith))

pub rises_same : (top : ℕ) (old new : Index) → new.numbers.entries ≡ old.numbers.entries → (q : ℕ) → RisesBelow top (listed old q) → RisesBelow top (listed new q)
rises_same top old new same q rises = subst (λ es. RisesBelow top (option_map_or (λ w. w.items) (lookup (is_at (nat_cmp q)) es) [])) (sym same) rises
