use Rattle.std.proofs.Common.{◌≡◌, ◌≢◌, ℕ, ◌<◌, ◌+◌, ◌-◌, true, false, length, get_or, refl, sym, ap, subst, ◌∙◌, arith}
use Rattle.std.proofs.lemmas.List.{get_or_default}
use Rattle.pb_trail.specs.declared.trail.Entry.{Entry}
use Rattle.pb_trail.proofs.AlongLaws.{no_entry}
use Rattle.pb_trail.proofs.PassLaws.{entry_among}
use Rattle.clause_learning.specs.Marks.{is_marked}
use Rattle.clause_learning.proofs.LearnedLaws.{HasMarks-down, unmarked_already}
use Rattle.clause_learning.proofs.cut.Cut.step.Goals as goal

pub returns-then-not-index-clause-cut : goal.returns-then-not-index-clause-cut
returns-then-not-index-clause-cut c =
    let one : c.args.self.now.top - 1 + 1 ≡ c.args.self.now.top = omega (arith, c.requires.above) in
    let within : c.args.self.now.top - 1 < length c.args.trail.now.entries.items = omega (arith, c.requires.above, c.requires.cut.marks.within) in
    let same : get_or c.args.trail.now.entries.items (c.args.self.now.top - 1) no_entry ≡ c.index.result.now = get_or_default c.args.trail.now.entries.items (c.args.self.now.top - 1) no_entry c.index.result.now within ∙ sym c.index.ensures in
    let among = entry_among c.args.trail.now (c.args.self.now.top - 1) no_entry c.requires.good within in
    let variable : (get_or c.args.trail.now.entries.items (c.args.self.now.top - 1) no_entry).lit.variable ≡ c.index.result.now.lit.variable = ap (λ (e : Entry). e.lit.variable) same in
    let room : c.index.result.now.lit.variable < length c.args.self.now.seen.items = omega (arith, variable, among.1, c.requires.cut.marks.all_marks) in
    let none : is_marked c.args.self.now.seen.items c.index.result.now.lit.variable ≡ false = get_or_default c.args.self.now.seen.items c.index.result.now.lit.variable false c.index-2.result.now room ∙ (sym c.index-2.ensures ∙ c.if-not-index.true) in
    record {
      marks = HasMarks-down c.args.trail.now c.args.self.now _ (c.args.self.now.top - 1) c.requires.good c.requires.cut.marks one refl refl (λ v m. let gone = unmarked_already c.args.self.now.seen.items c.index.result.now.lit.variable v none m in (gone.0, λ s. gone.1 (sym variable ∙ s))) refl refl refl;
      has_hints = c.requires.cut.has_hints;
      explained = c.requires.cut.explained;
    }

pub returns-clause-cut : goal.returns-clause-cut
returns-clause-cut c =
    let one : c.args.self.now.top - 1 + 1 ≡ c.resolve.new.self.top = omega (arith, c.requires.above, c.in_ok-resolve.ensures.keeps.top) in
    let cleared : (v : ℕ) → is_marked c.resolve.new.self.seen.items v ≡ true → (is_marked c.resolve.new.self.seen.items v ≡ true) × ((get_or c.args.trail.now.entries.items (c.args.self.now.top - 1) no_entry).lit.variable ≢ v) = λ v m. (m, λ e. c.in_ok-resolve.ensures.keeps.cleared no_entry (subst (λ (w : ℕ). is_marked c.resolve.new.self.seen.items w ≡ true) (sym e) m)) in
    record {
      marks = HasMarks-down c.args.trail.now c.resolve.new.self _ (c.args.self.now.top - 1) c.requires.good c.in_ok-resolve.ensures.cut.marks one refl refl cleared refl refl refl;
      has_hints = c.in_ok-resolve.ensures.cut.has_hints;
      explained = c.in_ok-resolve.ensures.cut.explained;
    }
