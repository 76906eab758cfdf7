-- A root's row is satisfied exactly where a selected member has its name.
use Rattle.std.proofs.Common.{◌≡◌, ℕ, ◌<◌, ◌≤◌, Bool, List, [], ◌∷◌, length, get_or, count_by, All, Contains, ◌↔◌, sym, ◌∙◌, ap, arith}
use Rattle.std.proofs.lemmas.Int.{ints}
use Rattle.std.proofs.lemmas.List.{get_or-map, length-map}
use Rattle.std.proofs.lemmas.List.Elements.{All-map}
use Rattle.unit_model.specs.Valid.{names}
use Rattle.unit_model.specs.declared.name.UnitName.{UnitName}
use Rattle.unit_model.specs.declared.unit.Unit.{Unit as Package}
use Rattle.pb_rows.specs.Deciding.{same_name}
use Rattle.pb_rows.specs.Members.{numbered, variables, selected}
use Rattle.pb_rows.specs.Normalising.{Satisfies}
use Rattle.pb_rows.specs.Rows.{root_row, root_rows}
use Rattle.pb_rows.proofs.CountingLaws.{positives_sum, crossed, count_some, some_counted}
use Rattle.pb_rows.proofs.DecidingLaws.{Decides-same_name}
use Rattle.pb_rows.proofs.ListLaws.{All-from_map}

named_from_count : (root : UnitName) (us : List Package) → 1 ≤ count_by (λ u. same_name u.name root) us → Contains (names us) root
named_from_count root us some =
    let a = some_counted (λ u. same_name u.name root) us some in (
      a.0,
      rw (length-map us (λ (u : Package). u.name)) a.2,
      get_or-map (λ (u : Package). u.name) us a.0 a.1 root a.2 ∙ (ap (λ (u : Package). u.name) a.3 ∙ (Decides-same_name a.1.name root).0 a.4),
    )

count_from_named : (root : UnitName) (us : List Package) → Contains (names us) root → 1 ≤ count_by (λ u. same_name u.name root) us
count_from_named root [] c = absurd (omega (arith, c.1))
count_from_named root (u ∷ us) c =
    let within : c.0 < length (u ∷ us) = rw (length-map (u ∷ us) (λ (w : Package). w.name)) at c.1 in
    let named : (get_or (u ∷ us) c.0 u).name ≡ root = sym (get_or-map (λ (w : Package). w.name) (u ∷ us) c.0 u root within) ∙ c.2 in
    count_some (λ w. same_name w.name root) (u ∷ us) c.0 u within ((Decides-same_name (get_or (u ∷ us) c.0 u).name root).1 named)

root_holds : (full : ℕ → Bool) (members : List Package) (root : UnitName) → Satisfies full (root_row members root) ↔ Contains (names (selected full members)) root
root_holds full members root =
    let sum = positives_sum full (variables (λ u. same_name u.name root) members) in
    let cross = crossed full (λ u. same_name u.name root) (numbered members) in (
      λ h. named_from_count root (selected full members) (omega (arith, ints)),
      λ c. let some = count_from_named root (selected full members) c in omega (arith, ints),
    )

pub roots_hold : (full : ℕ → Bool) (members : List Package) (roots : List UnitName) → All (Satisfies full) (root_rows members roots) ↔ All (Contains (names (selected full members))) roots
roots_hold full members roots = (
  λ all k d h. (root_holds full members (get_or roots k d)).0 (All-from_map (Satisfies full) (root_row members) roots all k d h),
  λ all. All-map (Satisfies full) (root_row members) roots (λ k d h. (root_holds full members (get_or roots k d)).1 (all k d h)),
)
