use Rattle.std.proofs.Common.{◌≡◌, ℕ, ◌+◌, ◌++◌, [], ◌∷◌, length, ap, sym, ◌∙◌, subst, rules, arith}
use Rattle.std.proofs.lemmas.Grind.{common_steps}
use Rattle.unit_catalog.specs.Indexed.{AllRise, LeadTo, AllKeepBelow}
use Rattle.unit_catalog.proofs.Adding.{on_not_err}
use Rattle.unit_catalog.proofs.Following.{indexed_more, indexed_same}
use Rattle.unit_catalog.proofs.indexes.append.Goals as goal

pub returns-then-is_err-clause-indexed : goal.returns-then-is_err-clause-indexed
returns-then-is_err-clause-indexed c =
    let units = c.args.units.now.items in
    let items : c.reserve.new.self.items ≡ units = c.reserve.ensures.items in
    let long : c.len-number.result ≡ length units = first_of (omega arith, search rules, grind (arith, common_steps)) in
    let kept : AllKeepBelow (length units) c.enter.new.self c.take_out.new.self = subst (λ (n : ℕ). AllKeepBelow n c.enter.new.self c.take_out.new.self) long c.take_out.ensures.kept in
    let rise : AllRise (length units + 1) c.take_out.new.self = subst (λ (n : ℕ). AllRise (n + 1) c.take_out.new.self) long c.take_out.ensures.rise in
    rw items (indexed_same units c.args.indexes.now c.enter.new.self c.take_out.new.self c.requires.indexed c.enter.ensures.kept kept rise)

pub returns-clause-indexed : goal.returns-clause-indexed
returns-clause-indexed c =
    let units = c.args.units.now.items in
    let items : c.reserve.new.self.items ≡ units = c.reserve.ensures.items in
    let long : c.len-number.result ≡ length units = first_of (omega arith, search rules, grind (arith, common_steps)) in
    let pushed : c.push_reserved.new.self.items ≡ units ++ c.args.unit ∷ [] = c.push_reserved.ensures.items ∙ ap (λ l. l ++ c.args.unit ∷ []) items in
    let rise : AllRise (length units + 1) c.enter.new.self = subst (λ (n : ℕ). AllRise (n + 1) c.enter.new.self) long c.enter.ensures.rise in
    let lead : LeadTo c.enter.new.self c.args.unit (length units) = subst (λ (n : ℕ). LeadTo c.enter.new.self c.args.unit n) long (on_not_err c.enter.result (sym c.is_err.ensures.value ∙ c.if-is_err.false) c.enter.ensures.lead) in
    rw pushed (indexed_more units c.args.unit c.args.indexes.now c.enter.new.self c.requires.indexed c.enter.ensures.kept rise lead)
