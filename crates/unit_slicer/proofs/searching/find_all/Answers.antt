use Rattle.std.proofs.Common.{◌≡◌, Some, None, List, sym, ap, ◌∙◌, subst, arith}
use Rattle.std.specs.Prelude.{All, slice_get}
use Rattle.std.proofs.lemmas.List.Elements.{All-nil}
use Rattle.std.proofs.lemmas.Option.{slice_get_within}
use Rattle.std.proofs.lemmas.Result.{err_from_is_err_and}
use Rattle.unit_model.specs.declared.name.UnitName.{UnitName}
use Rattle.unit_slicer.specs.Adding.{IsRoot, IsNext, Reaches, FromRoot, FromUnit}
use Rattle.unit_slicer.specs.Found.{Numbers}
use Rattle.unit_slicer.specs.declared.fault.SliceFault.TheVariants.{TooLarge}
use Rattle.unit_slicer.proofs.SliceLaws.{found_is_in, all_found, more_than, each_added, kept_added, done_more, all_done, none_left, same_error}
use Rattle.unit_slicer.proofs.searching.find_all.Goals as goal

pub returns-in_err-add_roots-clause-large : goal.returns-in_err-add_roots-clause-large
returns-in_err-add_roots-clause-large c =
    let way = c.args.way.now in
    let roots = c.args.roots.now in
    let p = err_from_is_err_and c.from_residual-in_err-add_roots.result c.from_residual-in_err-add_roots.ensures.1 in
    let none : All (Reaches way roots) c.in_ok-found.found.found = subst (λ (f : Numbers). All (Reaches way roots) f.found) (sym c.in_ok-found.ensures) (All-nil (Reaches way roots)) in
    rw (p.1, p.2)
    (λ e. more_than way roots (IsRoot way c.items.result.now) c.in_ok-found.found none
    (λ n is. FromRoot n (subst (λ (l : List UnitName). IsRoot way l n) c.items.ensures is))
    (c.in_err-add_roots.ensures.too_large (same_error c.in_err-add_roots.field-0.0 TooLarge e)))

pub loop-number-init : goal.loop-number-init
loop-number-init c =
    let way = c.args.way.now in
    let roots = c.args.roots.now in
    let adds = c.in_ok-add_roots.ensures.ok in
    let none : All (Reaches way roots) c.in_ok-found.found.found = subst (λ (f : Numbers). All (Reaches way roots) f.found) (sym c.in_ok-found.ensures) (All-nil (Reaches way roots)) in
    record {
      units = adds.units ∙ (ap (λ (f : Numbers). f.units) c.in_ok-found.ensures ∙ c.len.ensures.value);
      each = each_added way roots (IsRoot way c.items.result.now) c.in_ok-found.found c.add_roots.new.found none
          (λ n is. FromRoot n (subst (λ (l : List UnitName). IsRoot way l n) c.items.ensures is)) adds;
      begun = λ n is. adds.every n (subst (λ (l : List UnitName). IsRoot way l n) (sym c.items.ensures) is);
      done = λ k n below next. absurd (omega arith);
    }

pub returns-in_err-add_next-clause-large : goal.returns-in_err-add_next-clause-large
returns-in_err-add_next-clause-large c =
    let way = c.args.way.now in
    let roots = c.args.roots.now in
    let m = c.in-Some.number in
    let here : slice_get c.loop-number.found.found c.loop-number.place ≡ Some m = sym c.in-Some.ensures.value in
    let p = err_from_is_err_and c.from_residual-in_err-add_next.result c.from_residual-in_err-add_next.ensures.1 in
    rw (p.1, p.2)
    (λ e. more_than way roots (IsNext way m) c.loop-number.found c.loop-number.invariant.each
    (λ n next. FromUnit m n (found_is_in way roots c.loop-number.found.found c.loop-number.place m here c.loop-number.invariant.each) next)
    (c.in_err-add_next.ensures.too_large (same_error c.in_err-add_next.field-0.0 TooLarge e)))

pub overflow_add-place : goal.overflow_add-place
overflow_add-place c =
    let inside = slice_get_within c.loop-number.found.found c.loop-number.place c.in-Some.number (sym c.in-Some.ensures.value) in
    let few = c.in-Some.ensures.few in
    omega arith

pub loop-number-smaller : goal.loop-number-smaller
loop-number-smaller c =
    let inside = slice_get_within c.loop-number.found.found c.loop-number.place c.in-Some.number (sym c.in-Some.ensures.value) in
    let few = c.in-Some.ensures.few in
    omega (arith, inside, few)

pub loop-number-preserved : goal.loop-number-preserved
loop-number-preserved c =
    let way = c.args.way.now in
    let roots = c.args.roots.now in
    let m = c.in-Some.number in
    let old = c.loop-number.found in
    let new = c.add_next.new.found in
    let before = c.loop-number.invariant in
    let adds = c.in_ok-add_next.ensures.ok in
    let here : slice_get old.found c.loop-number.place ≡ Some m = sym c.in-Some.ensures.value in
    record {
      units = adds.units ∙ before.units;
      each = each_added way roots (IsNext way m) old new before.each
          (λ n next. FromUnit m n (found_is_in way roots old.found c.loop-number.place m here before.each) next) adds;
      begun = λ n is. kept_added (IsNext way m) old new n adds (before.begun n is);
      done = done_more way old new c.loop-number.place m here adds before.done;
    }

pub returns-clause-all : goal.returns-clause-all
returns-clause-all c =
    let way = c.args.way.now in
    let roots = c.args.roots.now in
    let numbers = c.loop-number.found.found in
    let before = c.loop-number.invariant in
    let end : slice_get numbers c.loop-number.place ≡ None = sym c.get.ensures.value ∙ none_left c.get.result (λ m e. c.in_default.not-Some m e) in
    all_found way roots numbers before.each before.begun (all_done way numbers c.loop-number.place end before.done)
