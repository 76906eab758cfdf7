use Rattle.std.proofs.Common.{◌≡◌, ◌<◌, ◌++◌, [], ◌∷◌, true, false, length, get_or, set, rules, arith, sym, subst}
use Rattle.std.proofs.lemmas.Grind.{common_steps}
use Rattle.std.proofs.lemmas.List.{length-set}
use Rattle.unit_slicer.specs.Found.{Numbers, Adds, AreTooMany}
use Rattle.unit_slicer.proofs.MarkingLaws.{adds_new, too_many_new}
use Rattle.unit_slicer.proofs.found.Found.add.Goals as goal

pub returns-then-len-eq-MOST_UNITS-clause-too_large : goal.returns-then-len-eq-MOST_UNITS-clause-too_large
returns-then-len-eq-MOST_UNITS-clause-too_large c = λ e.
    let numbers = c.self.inside.numbers.items in
    let marks = c.self.inside.seen.items in
    let inside : c.args.number < length marks = subst (λ (old : Numbers). c.args.number < old.units) (sym c.self.view_is) c.requires in
    let clear : get_or marks c.args.number false ≡ false = first_of (search rules, grind (arith, common_steps), cc) in
    let full : length numbers ≡ 8192 = first_of (omega arith, grind (arith, common_steps), search rules) in
    subst (λ (old : Numbers). AreTooMany (λ n. n ≡ c.args.number) old) c.self.view_is (too_many_new numbers marks c.args.number c.self.invariant inside clear full)

pub returns-clause-ok : goal.returns-clause-ok
returns-clause-ok c =
    let numbers = c.self.inside.numbers.items in
    let marks = c.self.inside.seen.items in
    let old : Numbers = record { units = length marks; found = numbers } in
    let new : Numbers = record { units = length (set marks c.args.number true); found = c.push.new.self.items } in
    let grown : c.push.new.self.items ≡ numbers ++ c.args.number ∷ [] = c.in_ok-push.ensures.items in
    subst (λ (before : Numbers). Adds (λ n. n ≡ c.args.number) before new) c.self.view_is (adds_new old new c.args.number (length-set marks c.args.number true) grown)
