use Rattle.std.proofs.Common.{◌≡◌, ◌∙◌, ◌++◌, length}
use Rattle.std.proofs.lemmas.List.Elements.{Contains-append_left, Contains-append_right}
use Rattle.unit_judge.specs.Leading.{IsRootAt}
use Rattle.unit_judge.specs.Reaching.{IsSound, HasMarked, Marks}
use Rattle.unit_judge.proofs.Chained.{sound_roots, kept_has, match_then, all_rooted, first_unrooted}
use Rattle.unit_judge.proofs.Marking.{still_marked}
use Rattle.unit_judge.proofs.rooting.unrooted.Goals as goal

pub close-requires-clause-listed : goal.close-requires-clause-listed
close-requires-clause-listed c = c.in_ok-reach_roots-2.ensures.marks.listed (c.in_ok-reach_roots.ensures.marks.listed c.in_ok-reached.ensures.listed)

pub returns : goal.returns
returns c =
    let units = c.args.index.now in
    let env = c.args.env.now in
    let strict = c.args.strict.now in
    let optional = c.args.optional.now in
    let roots = strict ++ optional in
    let empty = c.in_ok-reached.reached in
    let one = c.reach_roots.new.self in
    let two = c.reach_roots-2.new.self in
    let all = c.close.new.reached in
    let first : Marks (IsRootAt units strict) empty one = rw c.units-units.ensures at c.in_ok-reach_roots.ensures.marks in
    let second : Marks (IsRootAt units optional) one two = rw c.units-units.ensures at c.in_ok-reach_roots-2.ensures.marks in
    let has_first : HasMarked (IsRootAt units strict) one = rw c.units-units.ensures at c.in_ok-reach_roots.ensures.has in
    let has_second : HasMarked (IsRootAt units optional) two = rw c.units-units.ensures at c.in_ok-reach_roots-2.ensures.has in
    let size : length two.marks.items ≡ length units = second.size ∙ (first.size ∙ (rw c.units-units.ensures at c.in_ok-reached.ensures.size)) in
    let none : IsSound units roots env empty = λ n u marked here. absurd (c.in_ok-reached.ensures.none n marked) in
    let sound : IsSound units roots env all =
    c.in_ok-close.ensures.sound roots
    (sound_roots units optional roots env one two c.requires.apply (λ name has. Contains-append_right strict optional name has) second
    (sound_roots units strict roots env empty one c.requires.apply (λ name has. Contains-append_left strict optional name has) first none)) in
    let strict_in : HasMarked (IsRootAt units strict) all =
    kept_has (IsRootAt units strict) (length units) two all size c.in_ok-close.ensures.size c.in_ok-close.ensures.kept (still_marked (IsRootAt units strict) (IsRootAt units optional) one two second has_first) in
    let optional_in : HasMarked (IsRootAt units optional) all =
    kept_has (IsRootAt units optional) (length units) two all size c.in_ok-close.ensures.size c.in_ok-close.ensures.kept has_second in
    match_then c.unmarked.result (rw (c.units-units.ensures, c.as_slice.ensures.value) at c.unmarked.ensures)
    (λ marked. all_rooted units strict optional env all sound marked)
    (λ unit found. first_unrooted units strict optional env all unit.now c.in_ok-close.ensures.size sound strict_in optional_in c.in_ok-close.ensures.closed found)
