use Rattle.std.proofs.Common.{◌≡◌, ◌<◌, ◌≤◌, ℕ, false, List, length, get_or, refl, sym, ap, subst, ◌∙◌, arith}
use Rattle.std.proofs.lemmas.List.{get_or_default, length-set}
use Rattle.std.proofs.lemmas.List.Elements.{All-push}
use Rattle.pb_trail.specs.declared.trail.Entry.{Entry}
use Rattle.pb_trail.proofs.AlongLaws.{no_entry}
use Rattle.pb_trail.proofs.PassLaws.{entry_among}
use Rattle.clause_learning.specs.Explained.{IsExplained}
use Rattle.deriv_check.specs.LineRule.{HasHints}
use Rattle.clause_learning.proofs.LearnedLaws.{explained_resolved, unmarked_gone, still_marked}
use Rattle.clause_learning.proofs.MarkLaws.{HasMarks-fewer}
use Rattle.clause_learning.proofs.cut.Cut.resolve.Goals as goal

pub mark_terms-requires-clause-marks : goal.mark_terms-requires-clause-marks
mark_terms-requires-clause-marks c =
    let within : c.args.place < length c.args.trail.now.entries.items = omega (arith, c.requires.below, c.requires.cut.marks.within) in
    let same : get_or c.args.trail.now.entries.items c.args.place no_entry ≡ c.index-entry.result.now = get_or_default c.args.trail.now.entries.items c.args.place no_entry c.index-entry.result.now within ∙ sym c.index-entry.ensures in
    let among = entry_among c.args.trail.now c.args.place no_entry c.requires.good within in
    let variable : (get_or c.args.trail.now.entries.items c.args.place no_entry).lit.variable ≡ c.index-entry.result.now.lit.variable = ap (λ (e : Entry). e.lit.variable) same in
    let room : c.index-entry.result.now.lit.variable < length c.args.self.now.seen.items = omega (arith, variable, among.1, c.requires.cut.marks.all_marks) in
    HasMarks-fewer c.args.trail.now c.args.self.now _ c.requires.cut.marks refl (length-set c.args.self.now.seen.items c.index-entry.result.now.lit.variable false) (λ v m. (unmarked_gone c.args.self.now.seen.items c.index-entry.result.now.lit.variable v room m).0) refl refl refl

pub returns-clause-cut : goal.returns-clause-cut
returns-clause-cut c =
    let within : c.args.place < length c.args.trail.now.entries.items = omega (arith, c.requires.below, c.requires.cut.marks.within) in
    let some = subst (λ (e : Entry). 0 < e.reason) (sym c.index-entry.ensures) (c.requires.forced c.index-entry.result.now) in
    let step = c.requires.good.are_steps c.args.place c.index-entry.result.now within in
    let reason : (get_or c.args.trail.now.entries.items c.args.place c.index-entry.result.now).reason ≡ c.index-entry.result.now.reason = ap (λ (e : Entry). e.reason) (sym c.index-entry.ensures) in
    let most : c.index-entry.result.now.reason ≤ length c.args.trail.now.kept.constraints = omega (arith, reason, (step.forced (omega (arith, reason, some))).0) in
    let hints = c.mark_terms.ensures.keeps.hints ∙ c.in_ok-push.ensures.items in
    record {
      marks = c.mark_terms.ensures.marks;
      has_hints = subst (λ (hs : List ℕ). HasHints c.args.trail.now.kept.constraints hs) (sym hints) (All-push (λ (h : ℕ). (0 < h) × (h ≤ length c.args.trail.now.kept.constraints)) c.args.self.now.hints.items c.index-entry.result.now.reason c.requires.cut.has_hints (some, most));
      explained = subst (λ (hs : List ℕ). IsExplained c.args.trail.now c.mark_terms.new.self.seen.items hs) (sym hints) (explained_resolved c.args.trail.now c.args.self.now.seen.items c.mark_terms.new.self.seen.items c.args.self.now.hints.items c.args.place c.args.self.now.top c.index-entry.result.now c.requires.good within (sym c.index-entry.ensures) some c.requires.cut.marks.within c.requires.cut.marks.marked_below (λ v m apart. c.mark_terms.ensures.keeps.marks v (still_marked c.args.self.now.seen.items c.index-entry.result.now.lit.variable v m apart)) c.mark_terms.ensures.marked c.requires.cut.explained);
    }

pub returns-clause-keeps : goal.returns-clause-keeps
returns-clause-keeps c =
    let within : c.args.place < length c.args.trail.now.entries.items = omega (arith, c.requires.below, c.requires.cut.marks.within) in
    let among = entry_among c.args.trail.now c.args.place c.index-entry.result.now c.requires.good within in
    let own : (get_or c.args.trail.now.entries.items c.args.place c.index-entry.result.now).lit.variable ≡ c.index-entry.result.now.lit.variable = ap (λ (e : Entry). e.lit.variable) (sym c.index-entry.ensures) in
    let room : c.index-entry.result.now.lit.variable < length c.args.self.now.seen.items = omega (arith, own, among.1, c.requires.cut.marks.all_marks) in
    let variable : (d : Entry) → (get_or c.args.trail.now.entries.items c.args.place d).lit.variable ≡ c.index-entry.result.now.lit.variable = λ d. ap (λ (e : Entry). e.lit.variable) (get_or_default c.args.trail.now.entries.items c.args.place d c.index-entry.result.now within ∙ sym c.index-entry.ensures) in
    record {
      others = λ v d apart m. c.mark_terms.ensures.keeps.marks v (still_marked c.args.self.now.seen.items c.index-entry.result.now.lit.variable v m (λ e. apart (e ∙ sym (variable d))));
      cleared = λ d m. let at = c.requires.cut.marks.are_places c.args.place d within in (unmarked_gone c.args.self.now.seen.items c.index-entry.result.now.lit.variable (get_or c.args.trail.now.entries.items c.args.place d).lit.variable room (c.mark_terms.ensures.below.marks (get_or c.args.trail.now.entries.items c.args.place d).lit.variable (omega (arith, at)) m)).1 (sym (variable d));
      top = c.mark_terms.ensures.keeps.top;
      bottom = c.mark_terms.ensures.keeps.bottom;
      stop = c.mark_terms.ensures.keeps.stop;
      same_stop = c.mark_terms.ensures.below.stop;
    }
