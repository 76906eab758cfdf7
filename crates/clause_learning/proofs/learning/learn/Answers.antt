use Rattle.std.proofs.Common.{◌≡◌, ◌≤◌, ℕ, List, All, sym, ap, subst, ◌∙◌, arith}
use Rattle.pb_core.specs.declared.literal.Lit.{Lit}
use Rattle.pb_trail.proofs.TrailLaws.{trail_short}
use Rattle.clause_learning.specs.Asserting.{IsAsserting}
use Rattle.clause_learning.specs.Collected.{floor_of}
use Rattle.clause_learning.specs.Marks.{place_in}
use Rattle.clause_learning.proofs.LearnedLaws.{line_checks, unique, unique_kept, asserting, asserting_fresh}
use Rattle.clause_learning.proofs.learning.learn.Goals as goal

pub floor_of-floor-requires-clause-small : goal.floor_of-floor-requires-clause-small
floor_of-floor-requires-clause-small c =
    let small : All (λ l. place_in c.shorten.new.self.places.items l.variable ≤ 1000000000) c.in_ok-clause.clause = λ k d h. omega (arith, (c.in_ok-clause.ensures.each k d h).below, c.in_ok-shorten.ensures.cut.marks.within, trail_short c.args.trail.now c.requires.good, c.requires.good.few_variables) in
    let P : List ℕ → Type 0 = λ ps. All (λ l. place_in ps l.variable ≤ 1000000000) c.items.result.now in
    let Q : List Lit → Type 0 = λ xs. All (λ l. place_in c.shorten.new.self.places.items l.variable ≤ 1000000000) xs in
    subst P (sym c.as_slice.ensures.value) (subst Q (sym c.items.ensures) small)

pub shorten-requires-clause-below : goal.shorten-requires-clause-below
shorten-requires-clause-below c =
    let one = unique c.args.trail.now c.in_ok-cut.cut c.args.start c.requires.good c.in_ok-cut.ensures.cut c.requires.start c.in_ok-cut.ensures.bottom c.in_ok-cut.ensures.done c.requires.rest in
    omega (arith, one.some)

pub returns-clause-checks : goal.returns-clause-checks
returns-clause-checks c =
    line_checks c.args.trail.now c.shorten.new.self (record { clause = c.in_ok-clause.clause; hints = c.turned-hints.result }) c.requires.good c.in_ok-shorten.ensures.cut c.in_ok-clause.ensures c.turned-hints.ensures

pub returns-clause-fresh : goal.returns-clause-fresh
returns-clause-fresh c =
    let one = unique c.args.trail.now c.in_ok-cut.cut c.args.start c.requires.good c.in_ok-cut.ensures.cut c.requires.start c.in_ok-cut.ensures.bottom c.in_ok-cut.ensures.done c.requires.rest in
    let keeps = c.in_ok-shorten.ensures.keeps in
    let still = unique_kept c.args.trail.now c.in_ok-cut.cut c.shorten.new.self c.args.start c.in_ok-cut.ensures.cut.marks keeps one in
    let forces = asserting c.args.trail.now c.shorten.new.self c.args.start c.in_ok-clause.clause c.requires.good c.in_ok-shorten.ensures.cut.marks (keeps.bottom ∙ c.in_ok-cut.ensures.bottom) (omega (arith, keeps.top, keeps.stop, c.in_ok-cut.ensures.done)) still c.in_ok-clause.ensures in
    asserting_fresh c.args.trail.now c.args.start (floor_of c.shorten.new.self.places.items c.in_ok-clause.clause) c.in_ok-clause.clause c.requires.good (omega (arith, c.requires.start)) c.requires.rest forces

pub returns-clause-asserting : goal.returns-clause-asserting
returns-clause-asserting c =
    let one = unique c.args.trail.now c.in_ok-cut.cut c.args.start c.requires.good c.in_ok-cut.ensures.cut c.requires.start c.in_ok-cut.ensures.bottom c.in_ok-cut.ensures.done c.requires.rest in
    let keeps = c.in_ok-shorten.ensures.keeps in
    let still = unique_kept c.args.trail.now c.in_ok-cut.cut c.shorten.new.self c.args.start c.in_ok-cut.ensures.cut.marks keeps one in
    let forces = asserting c.args.trail.now c.shorten.new.self c.args.start c.in_ok-clause.clause c.requires.good c.in_ok-shorten.ensures.cut.marks (keeps.bottom ∙ c.in_ok-cut.ensures.bottom) (omega (arith, keeps.top, keeps.stop, c.in_ok-cut.ensures.done)) still c.in_ok-clause.ensures in
    let floor : c.floor_of-floor.result ≡ floor_of c.shorten.new.self.places.items c.in_ok-clause.clause = c.floor_of-floor.ensures ∙ (ap (λ (ps : List ℕ). floor_of ps c.items.result.now) c.as_slice.ensures.value ∙ ap (floor_of c.shorten.new.self.places.items) c.items.ensures) in
    let P : ℕ → Type 0 = λ f. IsAsserting c.args.trail.now c.args.start f c.in_ok-clause.clause in
    subst P (sym floor) forces
