use Rattle.std.proofs.Common.{◌≡◌, ℕ}
use Rattle.unit_judge.specs.Leading.{IsRootAt}
use Rattle.unit_judge.proofs.Leads.{root_here, roots_more, roots_same, roots_all}
use Rattle.unit_judge.proofs.Marking.{marks_then, marks_wider}
use Rattle.unit_judge.proofs.reaching.Reached.reach_roots.Goals as goal
use Rattle.unit_judge.proofs.reaching.Reached.reach_roots.Goals.{in-Some+in_ok-reach, in_default}

pub loop-root-preserved : goal.loop-root-preserved
loop-root-preserved c =
    let units = c.args.units.now in
    let roots = c.args.roots.now in
    let at = c.loop-root.root-index in
    let root = c.root-item.result in
    let inside = c.loop-root-test.true in
    let is = c.root-item.is in
    let Kind : ℕ → Type 0 = IsRootAt units roots in
    elim c.match-place_of.branch [
      | in-Some+in_ok-reach w ↦
          let place = w.in-Some.place in
          let Own : ℕ → Type 0 = λ n. n ≡ place in
          rw w.self-is (record {
            marks = marks_then Kind _ _ _ c.loop-root.invariant.marks (marks_wider Own Kind _ _ (root_here units roots at root place inside is w.in-Some.ensures) w.in_ok-reach.ensures.marks);
            has = roots_more units roots at root place c.loop-root.self w.reach.new.self c.requires inside is w.in-Some.ensures w.in_ok-reach.ensures.marks w.in_ok-reach.ensures.has c.loop-root.invariant.has;
          })
      | in_default w ↦ rw w.self-is (record {
        marks = c.loop-root.invariant.marks;
        has = roots_same units roots at root c.loop-root.self inside is w.in_default.ensures c.loop-root.invariant.has;
      })
    ]

pub returns-clause-has : goal.returns-clause-has
returns-clause-has c = roots_all c.args.units.now c.args.roots.now c.loop-root.root-index c.loop-root.self c.loop-root-test.false c.loop-root.invariant.has
