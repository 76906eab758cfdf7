use Rattle.std.proofs.Common.{◌≡◌, ◌+◌, ◌<◌, ◌∷◌, length, take, get_or, drop, arith, subst, ◌∙◌}
use Rattle.std.proofs.lemmas.List.{take_all}
use Rattle.unit_lines.specs.Line.{seen}
use Rattle.unit_text.specs.UnitReading.{AreCutOff}
use Rattle.unit_text.proofs.Outcomes.{cut_off, wrong, more, taken_by, seen_more, split_at, done_long}
use Rattle.unit_text.proofs.taking.read_rest.Goals as goal

pub returns-in-End-clause-taken : goal.returns-in-End-clause-taken
returns-in-End-clause-taken c = λ first n.
    let so_far = c.loop-place.invariant first n in
    let rest = c.args.rest.now in
    let k = c.loop-place.place in
    let inside : k < length rest = omega (arith, c.loop-place-test.true) in
    taken_by c.loop-place.draft so_far.0 (first ∷ seen (take k rest)) so_far.1 (get_or rest k _).now (seen (drop (k + 1) rest)) (first ∷ seen rest) (k + 2)
    (split_at first rest k _ inside) (omega (arith, done_long first rest k (omega (arith, inside)))) c.advance.new.draft (rw c.in-End.is at c.in_ok-advance.ensures) c.finish.result c.finish.ensures

pub returns-in-Wrong-clause-refused : goal.returns-in-Wrong-clause-refused
returns-in-Wrong-clause-refused c = λ first n.
    let so_far = c.loop-place.invariant first n in
    let rest = c.args.rest.now in
    let k = c.loop-place.place in
    let inside : k < length rest = omega (arith, c.loop-place-test.true) in
    wrong c.loop-place.draft so_far.0 (first ∷ seen (take k rest)) so_far.1 (get_or rest k _).now (seen (drop (k + 1) rest)) (first ∷ seen rest) (k + 2)
    (split_at first rest k _ inside) (omega (arith, done_long first rest k (omega (arith, inside)))) (rw c.in-Wrong.is at c.in_ok-advance.ensures)

pub loop-place-preserved : goal.loop-place-preserved
loop-place-preserved c = λ first n.
    let so_far = c.loop-place.invariant first n in
    let rest = c.args.rest.now in
    let k = c.loop-place.place in
    let inside : k < length rest = omega (arith, c.loop-place-test.true) in
    let q = more c.loop-place.draft so_far.0 (first ∷ seen (take k rest)) so_far.1 (get_or rest k _).now c.advance.new.draft (rw c.in-Part.is at c.in_ok-advance.ensures) in
    (q.0, seen_more first rest k _ inside ∙ q.1)

pub returns-clause-refused : goal.returns-clause-refused
returns-clause-refused c = λ first n.
    let so_far = c.loop-place.invariant first n in
    let rest = c.args.rest.now in
    let all : take c.loop-place.place rest ≡ rest = take_all c.loop-place.place rest (omega (arith, c.loop-place-test.false)) in
    subst (λ r. AreCutOff (first ∷ seen r)) all (cut_off c.loop-place.draft so_far.0 (first ∷ seen (take c.loop-place.place rest)) so_far.1)
