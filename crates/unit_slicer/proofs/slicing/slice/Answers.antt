use Rattle.std.proofs.Common.{◌≡◌, ◌≢◌, ℕ, ◌≤◌, List, length, sym, subst}
use Rattle.std.specs.Prelude.{AllPairs}
use Rattle.std.proofs.lemmas.List.Elements.{All-contains_itself}
use Rattle.std.proofs.lemmas.Result.{err_from_is_err_and}
use Rattle.unit_model.specs.Slice.{IsInSlice}
use Rattle.unit_catalog.specs.Order.{AreMembers}
use Rattle.unit_slicer.specs.Members.{AreOfSlice}
use Rattle.unit_slicer.specs.declared.fault.SliceFault.TheVariants.{TooLarge}
use Rattle.unit_slicer.proofs.SliceLaws.{contains_at, all_of_chain, reached_chain, members_sorted, all_sorted, not_more, same_error, more_in_slice}
use Rattle.unit_slicer.proofs.WholeCatalogLaws.{keeps_valid, parts_there}
use Rattle.unit_slicer.proofs.slicing.slice.Goals as goal

pub returns-in_err-found-clause-large : goal.returns-in_err-found-clause-large
returns-in_err-found-clause-large c =
    let units = c.args.catalog.now in
    let roots = c.args.roots.now in
    let p = err_from_is_err_and c.from_residual.result c.from_residual.ensures.1 in
    rw (p.1, p.2)
    (λ e. more_in_slice _ roots (reached_chain _ roots units (λ n u here among. contains_at units n u here)) (c.in_err-found.ensures.large (same_error c.in_err-found.field-0.0 TooLarge e)))

pub returns-in_err-found-clause-whole_catalog : goal.returns-in_err-found-clause-whole_catalog
returns-in_err-found-clause-whole_catalog c = keeps_valid c.args.catalog.now c.args.roots.now c.args.env.now

found_all : (c : goal.After-from_vec) → AreOfSlice c.args.catalog.now c.args.roots.now c.args.env.now c.into_numbers-numbers.result.items
found_all c =
    let units = c.args.catalog.now in
    subst (AreOfSlice units c.args.roots.now c.args.env.now) (sym c.into_numbers-numbers.ensures.value)
    (all_of_chain _ c.args.roots.now units (λ n u here among. contains_at units n u here) (All-contains_itself units) (λ n u here inside. tt) c.in_ok-found.found.found c.in_ok-found.ensures.all)

pub returns-clause-members : goal.returns-clause-members
returns-clause-members c =
    let units = c.args.catalog.now in
    let found : List ℕ = c.into_numbers-numbers.result.items in
    let same : found ≡ c.in_ok-found.found.found = c.into_numbers-numbers.ensures.value in
    let few : length found ≤ 8192 = subst (λ (ns : List ℕ). length ns ≤ 8192) (sym same) c.into_numbers-numbers.ensures.few in
    let distinct : AllPairs (λ m n. m ≢ n) found = subst (AllPairs (λ m n. m ≢ n)) (sym same) c.into_numbers-numbers.ensures.distinct in
    subst (AreMembers units) (sym c.from_vec.ensures)
    (members_sorted units (IsInSlice units c.args.roots.now c.args.env.now) found c.sort_by_name.new.numbers.items c.find_all.ensures.names (found_all c) few distinct c.sort_by_name.ensures.permutation c.sort_by_name.ensures.sorted)

pub returns-clause-slice : goal.returns-clause-slice
returns-clause-slice c =
    let units = c.args.catalog.now in
    let roots = c.args.roots.now in
    let env = c.args.env.now in
    subst (AreOfSlice units roots env) (sym c.from_vec.ensures)
    (all_sorted units (IsInSlice units roots env) c.into_numbers-numbers.result.items c.sort_by_name.new.numbers.items (found_all c) c.sort_by_name.ensures.permutation)

pub returns-clause-refused : goal.returns-clause-refused
returns-clause-refused c = λ more. absurd (not_more c.args.catalog.now c.args.roots.now c.args.env.now c.into_numbers-numbers.result.items (found_all c) (subst (λ (ns : List ℕ). length ns ≤ 8192) (sym c.into_numbers-numbers.ensures.value) c.into_numbers-numbers.ensures.few) more)

pub returns-clause-parts : goal.returns-clause-parts
returns-clause-parts c = parts_there c.args.catalog.now c.args.roots.now c.args.env.now c.into_numbers-numbers.result.items (found_all c)

pub returns-clause-whole_catalog : goal.returns-clause-whole_catalog
returns-clause-whole_catalog c = keeps_valid c.args.catalog.now c.args.roots.now c.args.env.now
