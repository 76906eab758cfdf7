use Rattle.std.proofs.Common.{◌≡◌, ◌+◌, ◌≤◌, ◌++◌, ◌∷◌, [], List, length, sym, ap, subst, ◌∙◌}
use Rattle.std.proofs.lemmas.List.{length_push}
use Rattle.pb_core.specs.AtLeast.{AtLeast, clause}
use Rattle.deriv_check.specs.declared.derivation.Line.{Line}
use Rattle.pb_trail.specs.Along.{weight}
use Rattle.pb_trail.specs.declared.trail.Entry.{Entry}
use Rattle.pb_solver.specs.SearchHolds.{SearchHolds}
use Rattle.pb_solver.specs.Spending.{spent}
use Rattle.pb_solver.specs.declared.search.Search.{Search}
use Rattle.pb_solver.proofs.KeepLaws.{back_rests, rest_but_last}
use Rattle.pb_solver.proofs.SearchLaws.{longer, same_longer, SearchHolds-longer, on_err}
use Rattle.pb_solver.proofs.SpendingLaws.{spent_back, spent_longer}
use Rattle.pb_solver.proofs.search.Search.keep.Goals as goal

pub add-requires-clause-rests : goal.add-requires-clause-rests
add-requires-clause-rests g c =
    back_rests c.args.self.now.levels c.go_back.new.self c.args.start c.args.learned.floor c.note_conflict-floor.result c.args.learned.line.clause c.requires.holds.levels c.requires.decided c.requires.start c.go_back.ensures.back c.note_conflict-floor.ensures c.requires.asserting

pub returns-in_err-add-clause-err : goal.returns-in_err-add-clause-err
returns-in_err-add-clause-err g c =
    on_err c.from_residual.result (spent_back c.args.self.now c.go_back.new.self.trail.entries.items c.args.steps.now c.go_back.new.steps c.requires.holds c.requires.room c.go_back.ensures.steps)

pub returns-in_err-push-clause-err : goal.returns-in_err-push-clause-err
returns-in_err-push-clause-err g c =
    on_err c.from_residual-in_err-push.result (spent_back c.args.self.now c.go_back.new.self.trail.entries.items c.args.steps.now c.go_back.new.steps c.requires.holds c.requires.room c.go_back.ensures.steps)

pub returns-clause-holds : goal.returns-clause-holds
returns-clause-holds g c =
    let constraints : c.add.new.self.trail.kept.constraints ≡ c.args.self.now.levels.trail.kept.constraints ++ clause c.args.learned.line.clause ∷ [] = c.in_ok-add.ensures.constraints ∙ ap (λ (cs : List AtLeast). cs ++ clause c.args.learned.line.clause ∷ []) c.go_back.ensures.back.constraints in
    let variables : length c.add.new.self.trail.kept.values ≡ length c.args.self.now.levels.trail.kept.values = ap length c.add.ensures.values ∙ c.go_back.ensures.back.variables in
    let after : List Line → Search = λ ls. record { levels = c.add.new.self; lines = ls; found = c.args.self.now.found; wanted = c.args.self.now.wanted; agenda = c.note_conflict-floor.new.self; budget = c.args.self.now.budget } in
    let P : List Line → Type 0 = λ ls. SearchHolds (after ls) in
    subst P (sym c.in_ok-push.ensures.ok) (SearchHolds-longer c.args.self.now c.add.new.self c.note_conflict-floor.new.self c.args.learned.line c.requires.holds c.in_ok-add.ensures.holds constraints variables c.requires.room c.requires.checks c.requires.fresh c.requires.not_wanted)

pub returns-clause-rest : goal.returns-clause-rest
returns-clause-rest g c =
    rest_but_last c.go_back.new.self.trail c.add.new.self.trail (clause c.args.learned.line.clause) c.in_ok-add.ensures.constraints c.add.ensures.values c.go_back.ensures.back.at_rest

pub returns-clause-steps : goal.returns-clause-steps
returns-clause-steps g c =
    let constraints : c.add.new.self.trail.kept.constraints ≡ c.args.self.now.levels.trail.kept.constraints ++ clause c.args.learned.line.clause ∷ [] = c.in_ok-add.ensures.constraints ∙ ap (λ (cs : List AtLeast). cs ++ clause c.args.learned.line.clause ∷ []) c.go_back.ensures.back.constraints in
    let variables : length c.add.new.self.trail.kept.values ≡ length c.args.self.now.levels.trail.kept.values = ap length c.add.ensures.values ∙ c.go_back.ensures.back.variables in
    let after : List Line → Search = λ ls. record { levels = c.add.new.self; lines = ls; found = c.args.self.now.found; wanted = c.args.self.now.wanted; agenda = c.note_conflict-floor.new.self; budget = c.args.self.now.budget } in
    let P : List Line → Type 0 = λ ls. c.go_back.new.steps + spent c.args.self.now ≤ c.args.steps.now + spent (after ls) in
    let Q : List Entry → Type 0 = λ es. c.go_back.new.steps + weight c.args.self.now.levels.trail.kept.constraints es ≡ c.args.steps.now + weight c.args.self.now.levels.trail.kept.constraints c.args.self.now.levels.trail.entries.items in
    let counted = subst Q (sym c.add.ensures.entries) c.go_back.ensures.steps in
    subst P (sym c.in_ok-push.ensures.ok) (spent_longer c.args.self.now (longer c.args.self.now c.add.new.self c.note_conflict-floor.new.self c.args.learned.line) (clause c.args.learned.line.clause) c.args.steps.now c.go_back.new.steps c.requires.holds (same_longer c.args.self.now c.add.new.self c.note_conflict-floor.new.self c.args.learned.line c.requires.holds constraints variables) (length_push c.args.self.now.lines c.args.learned.line) constraints counted)
