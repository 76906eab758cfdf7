-- A name is there, or new.
use Rattle.std.proofs.Common.{◌≡◌, ◌≢◌, ℕ, ◌<◌, true, false, List, [], ◌∷◌, ◌++◌, length, ap, sym, ◌∙◌, arith}
use Rattle.std.specs.Prelude.{Option, Some, None, Result, Ok, Err, OnOk, Contains}
use Rattle.std.specs.Option.{is_some}
use Rattle.std.specs.Result.{is_err}
use Rattle.std.proofs.lemmas.List.{get_or-map, length-map}
use Rattle.std.proofs.lemmas.List.Quantifiers.{all_pairs_push}
use Rattle.std.proofs.lemmas.Option.{slice_get_within, get_or_from_slice_get}
use Rattle.unit_model.specs.Valid.{names}
use Rattle.unit_model.specs.declared.name.UnitName.{UnitName}
use Rattle.unit_model.specs.declared.unit.Unit.{Unit as Package}
use Rattle.unit_catalog.specs.Named.{IsNew, IsNumberOf, HasDistinctNames}

pub found_not_new : (units : List Package) (name : UnitName) (answer : Option ℕ) → is_some answer ≡ true → IsNumberOf units name answer → IsNew units name → ⊥
found_not_new units name None found here new = cc
found_not_new units name (Some n) found here new =
    new n here.unit (slice_get_within units n here.unit here.here) (ap (λ (u : Package). u.name) (get_or_from_slice_get units n here.unit here.unit here.here) ∙ here.has)

pub not_found_new : (units : List Package) (name : UnitName) (answer : Option ℕ) → is_some answer ≡ false → IsNumberOf units name answer → IsNew units name
not_found_new units name None missing new = new
not_found_new units name (Some n) missing here = absurd (cc)

pub new_not_named : (units : List Package) (name : UnitName) → IsNew units name → Contains (names units) name → ⊥
new_not_named [] name new has = let inside = has.1 in omega arith
new_not_named (u ∷ us) name new has =
    let f : Package → UnitName = λ v. v.name in
    let inside : has.0 < length (u ∷ us) = rw (← length-map (u ∷ us) f) has.1 in
    new has.0 u inside (sym (get_or-map f (u ∷ us) has.0 u name inside) ∙ has.2)

pub distinct_more : (units : List Package) (unit : Package) → HasDistinctNames units → IsNew units unit.name → HasDistinctNames (units ++ unit ∷ [])
distinct_more units unit distinct new = all_pairs_push (λ u v. u.name ≢ v.name) units unit distinct (λ k d inside. new k d inside)

pub on_not_err : {T E A : Type 0} (r : Result T E) → is_err r ≡ false → OnOk r A → A
on_not_err (Ok v) fine a = a
on_not_err (Err e) fine a = absurd (cc)
