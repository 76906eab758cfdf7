use Rattle.std.proofs.Common.{◌≡◌, ◌≤◌, ℕ, List, [], length, sym, ap, subst}
use Rattle.std.specs.Prelude.{◌↔◌, Any, Contains}
use Rattle.std.proofs.lemmas.Result.{err_from_is_err_and}
use Rattle.unit_catalog.specs.Order.{units_at}
use Rattle.unit_slicer.specs.Found.{Numbers, Adds}
use Rattle.unit_slicer.specs.declared.fault.SliceFault.TheVariants.{TooLarge}
use Rattle.unit_slicer.proofs.RootedLaws.{given_found, not_too_many, not_over, unit_of_number, units_inside, number_given}
use Rattle.unit_slicer.proofs.SliceLaws.{all_of_chain, same_error}
use Rattle.unit_slicer.proofs.rooting.find_rooted.Goals as goal

pub returns-in_err-add_numbers-clause-few : goal.returns-in_err-add_numbers-clause-few
returns-in_err-add_numbers-clause-few c =
    let members = c.args.members.now in
    let none : c.in_ok-among.among.found ≡ [] = ap (λ (f : Numbers). f.found) c.in_ok-among.ensures in
    let few : length c.items.result.now ≤ 8192 = subst (λ (ns : List ℕ). length ns ≤ 8192) (sym c.items.ensures) c.requires.few in
    let p = err_from_is_err_and c.from_residual-in_err-add_numbers.result c.from_residual-in_err-add_numbers.ensures.1 in
    rw (p.1, p.2)
    (λ e. not_too_many c.items.result.now c.in_ok-among.among none few (c.in_err-add_numbers.ensures.too_large (same_error c.in_err-add_numbers.field-0.0 TooLarge e)))

-- what is searched among is the members
given : (members items : List ℕ) (old new : Numbers) → items ≡ members → old.found ≡ [] → Adds (λ n. Any (λ m. n ≡ m) items) old new → (n : ℕ) → Contains new.found n ↔ Contains members n
given members items old new same none adds =
    subst (λ (ns : List ℕ). (n : ℕ) → Contains new.found n ↔ Contains ns n) same (given_found items old none new adds)

pub returns-in_err-found-clause-few : goal.returns-in_err-found-clause-few
returns-in_err-found-clause-few c =
    let members : List ℕ = c.args.members.now in
    let p = err_from_is_err_and c.from_residual-in_err-found.result c.from_residual-in_err-found.ensures.1 in
    rw (p.1, p.2)
    (λ e. not_over _ c.args.roots.now members c.requires.few (λ n among. (given members c.items.result.now c.in_ok-among.among c.add_numbers.new.found c.items.ensures (ap (λ (f : Numbers). f.found) c.in_ok-among.ensures) c.in_ok-add_numbers.ensures.ok n).0 among) (c.in_err-found.ensures.large (same_error c.in_err-found.field-0.0 TooLarge e)))

pub returns-clause-all : goal.returns-clause-all
returns-clause-all c =
    let units = c.args.catalog.now in
    let members : List ℕ = c.args.members.now in
    all_of_chain _ c.args.roots.now (units_at units members)
    (λ n u here among. unit_of_number units members c.requires.there n u here ((given members c.items.result.now c.in_ok-among.among c.add_numbers.new.found c.items.ensures (ap (λ (f : Numbers). f.found) c.in_ok-among.ensures) c.in_ok-add_numbers.ensures.ok n).0 among))
    (units_inside units members c.requires.there)
    (λ n u here inside. (given members c.items.result.now c.in_ok-among.among c.add_numbers.new.found c.items.ensures (ap (λ (f : Numbers). f.found) c.in_ok-among.ensures) c.in_ok-add_numbers.ensures.ok n).1 (number_given units c.find_all.ensures.names members c.requires.there n u here inside))
    c.in_ok-found.found.found c.in_ok-found.ensures.all
