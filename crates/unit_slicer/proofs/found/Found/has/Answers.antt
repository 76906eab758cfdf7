use Rattle.std.proofs.Common.{◌≡◌, ◌<◌, ◌≤◌, false, length, get_or, arith, subst, sym, ◌∙◌}
use Rattle.std.specs.Prelude.{IsTrue, ◌↔◌, Contains}
use Rattle.std.proofs.lemmas.List.{get_or_default}
use Rattle.std.proofs.lemmas.List.Elements.{All-contains}
use Rattle.std.proofs.lemmas.Bool.{ltb-true}
use Rattle.unit_slicer.specs.Found.{Numbers}
use Rattle.unit_slicer.proofs.found.Found.has.Goals as goal

pub returns-then-number-len : goal.returns-then-number-len
returns-then-number-len c =
    let marks = c.self.inside.seen.items in
    let n = c.args.number in
    let inside : n < length marks = omega (arith, c.if-number-len.true, c.len.ensures, c.self.inside.seen.ok) in
    let has = c.self.invariant.marked n inside in
    let is : c.index.result.now ≡ get_or marks n false = c.index.ensures ∙ get_or_default marks n c.index.result.now false inside in
    subst (λ (old : Numbers). IsTrue c.index.result.now ↔ Contains old.found n) c.self.view_is (λ yes. has.0 (sym is ∙ yes), λ there. is ∙ has.1 there)

pub returns-else-number-len : goal.returns-else-number-len
returns-else-number-len c =
    let n = c.args.number in
    let past : c.len.result ≤ n = c.if-number-len.false in
    let none : Contains c.self.inside.numbers.items n → ⊥ = λ there.
    let low : n < length c.self.inside.seen.items = All-contains (λ m. m < length c.self.inside.seen.items) c.self.inside.numbers.items n c.self.invariant.within there in
    omega (arith, low, past, c.len.ensures, c.self.inside.seen.ok) in (
      λ yes. let low : n < c.len.result = ltb-true n c.len.result yes in absurd (omega arith),
      λ there. absurd (none (subst (λ (old : Numbers). Contains old.found n) (sym c.self.view_is) there)),
    )
