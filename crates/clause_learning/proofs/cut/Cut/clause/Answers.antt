use Rattle.std.proofs.Common.{◌≡◌, ◌<◌, ◌+◌, ◌-◌, ◌++◌, ◌∷◌, [], ℕ, false, true, List, length, get_or, sym, ap, subst, ◌∙◌, arith}
use Rattle.std.proofs.lemmas.List.{get_or_default}
use Rattle.pb_core.specs.declared.literal.Lit.{Lit}
use Rattle.pb_trail.specs.declared.trail.Entry.{Entry}
use Rattle.pb_trail.proofs.PassLaws.{entry_among}
use Rattle.clause_learning.specs.Collected.{IsCollected}
use Rattle.clause_learning.specs.Marks.{is_marked}
use Rattle.clause_learning.proofs.LearnedLaws.{IsCollected-push}
use Rattle.clause_learning.proofs.cut.Cut.clause.Goals as goal

pub index-requires-in-loop-place : goal.index-requires-in-loop-place
index-requires-in-loop-place c =
    let within : c.loop-place.place - 1 < length c.args.trail.now.entries.items = omega (arith, c.loop-place.auto.place, c.loop-place-test.true, c.requires.cut.marks.within) in
    let among = entry_among c.args.trail.now (c.loop-place.place - 1) c.index.result.now c.requires.good within in
    let variable : (get_or c.args.trail.now.entries.items (c.loop-place.place - 1) c.index.result.now).lit.variable ≡ c.index.result.now.lit.variable = ap (λ (e : Entry). e.lit.variable) (sym c.index.ensures) in
    omega (arith, variable, among.1, c.requires.cut.marks.all_marks, c.args.self.now.seen.ok.0)

pub loop-place-preserved-in-Continue-1 : goal.loop-place-preserved-in-Continue-1
loop-place-preserved-in-Continue-1 c =
    let below : c.loop-place.place - 1 < c.args.self.now.top = omega (arith, c.loop-place.auto.place, c.loop-place-test.true) in
    let within : c.loop-place.place - 1 < length c.args.trail.now.entries.items = omega (arith, below, c.requires.cut.marks.within) in
    let among = entry_among c.args.trail.now (c.loop-place.place - 1) c.index.result.now c.requires.good within in
    let variable : (get_or c.args.trail.now.entries.items (c.loop-place.place - 1) c.index.result.now).lit.variable ≡ c.index.result.now.lit.variable = ap (λ (e : Entry). e.lit.variable) (sym c.index.ensures) in
    let room : c.index.result.now.lit.variable < length c.args.self.now.seen.items = omega (arith, variable, among.1, c.requires.cut.marks.all_marks) in
    let marked : is_marked c.args.self.now.seen.items c.index.result.now.lit.variable ≡ true = get_or_default c.args.self.now.seen.items c.index.result.now.lit.variable false c.index-in-loop-place.result.now room ∙ (sym c.index-in-loop-place.ensures ∙ c.if-index.true) in
    let next : c.loop-place.place ≡ c.loop-place.place - 1 + 1 = omega (arith, c.loop-place-test.true) in
    let P : ℕ → Type 0 = λ k. IsCollected c.args.trail.now c.args.self.now k c.loop-place.lits in
    let Q : List Lit → Type 0 = λ xs. IsCollected c.args.trail.now c.args.self.now (c.loop-place.place - 1) xs in
    let lits = c.in_ok-push.ensures.ok ∙ ap (λ (l : Lit). c.loop-place.lits ++ l ∷ []) c.complement.ensures in
    subst Q (sym lits) (IsCollected-push c.args.trail.now c.args.self.now (c.loop-place.place - 1) c.index.result.now c.loop-place.lits c.requires.cut.marks below (sym c.index.ensures) marked (subst P next c.loop-place.invariant))
