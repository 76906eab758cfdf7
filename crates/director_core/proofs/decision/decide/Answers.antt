use Rattle.std.proofs.Common.{◌≡◌, Err}
use Rattle.std.proofs.lemmas.Result.{err_from_is_err_and}
use Rattle.director_words.specs.declared.status.Status.{Status}
use Rattle.director_words.specs.declared.status.Status.TheVariants.{NotBuilt, Unknown}
use Rattle.folder_core.specs.Cause.{Rose}
use Rattle.folder_core.specs.Step.{OnTold}
use Rattle.director_core.specs.Answer.{IsAsked, HasChild}
use Rattle.director_core.specs.Found.{FindsNone}
use Rattle.director_core.specs.Planned.{IsUnplanned}
use Rattle.director_source.specs.Source.{SourceGives}
use Rattle.director_core.proofs.Decisions.{still_bare, reading_stops, folder_answer, source_answer, named_answer, planned_answer, chosen, installed}
use Rattle.director_core.proofs.RunSteps.{folder_stopped, source_stopped, stage_stopped}
use Rattle.director_core.proofs.decision.decide.Goals as goal

pub returns-in_err-check_bare-clause-refused : goal.returns-in_err-check_bare-clause-refused
returns-in_err-check_bare-clause-refused g c =
    let p = err_from_is_err_and c.from_residual-in_err-check_bare.result c.from_residual-in_err-check_bare.ensures.1 in
    let asked : IsAsked c.args.words.now = (c.in_ok-asked.asked.profile, c.in_ok-asked.asked.word, c.in_ok-asked.ensures.found) in
    let F : Type 0 = Rose (g.F.Folder.faults c.args.folder.now) (g.F.Folder.faults c.check_bare.new.folder) in
    let S : Type 0 = Rose (g.T.Tree.faults c.args.source.now) (g.T.Tree.faults c.args.source.now) in
    let G : Status → Type 0 = λ s. (s ≡ NotBuilt) × OnTold (g.F.Folder.told c.args.folder.now) (λ t. HasChild t.now) in
    rw (p.1, p.2) (folder_stopped (IsAsked c.args.words.now) F S G c.in_err-check_bare.field-0.0 asked c.in_err-check_bare.ensures.refused)

pub returns-in_err-check_bare-clause-answer : goal.returns-in_err-check_bare-clause-answer
returns-in_err-check_bare-clause-answer g c =
    let p = err_from_is_err_and c.from_residual-in_err-check_bare.result c.from_residual-in_err-check_bare.ensures.1 in
    let asked : IsAsked c.args.words.now = (c.in_ok-asked.asked.profile, c.in_ok-asked.asked.word, c.in_ok-asked.ensures.found) in
    rw (p.1, p.2) (folder_answer (g.F.Folder.told c.args.folder.now) (g.T.Tree.told c.args.source.now) c.args.words.now _ c.in_err-check_bare.field-0.0 asked c.in_err-check_bare.ensures.refused)

pub returns-in_err-catalog-clause-refused : goal.returns-in_err-catalog-clause-refused
returns-in_err-catalog-clause-refused g c =
    let p = err_from_is_err_and c.from_residual-in_err-catalog.result c.from_residual-in_err-catalog.ensures.1 in
    let asked : IsAsked c.args.words.now = (c.in_ok-asked.asked.profile, c.in_ok-asked.asked.word, c.in_ok-asked.ensures.found) in
    let F : Type 0 = Rose (g.F.Folder.faults c.args.folder.now) (g.F.Folder.faults c.check_bare.new.folder) in
    let S : Type 0 = Rose (g.T.Tree.faults c.args.source.now) (g.T.Tree.faults c.read_source.new.source) in
    let G : Status → Type 0 = λ s. OnTold (g.T.Tree.told c.args.source.now) (λ files. SourceGives files (Err s)) in
    rw (p.1, p.2) (source_stopped (IsAsked c.args.words.now) F S G c.in_err-catalog.field-0.0 asked (reading_stops G S c.in_err-catalog.field-0.0 c.in_err-catalog.ensures.refused))

pub returns-in_err-catalog-clause-answer : goal.returns-in_err-catalog-clause-answer
returns-in_err-catalog-clause-answer g c =
    let p = err_from_is_err_and c.from_residual-in_err-catalog.result c.from_residual-in_err-catalog.ensures.1 in
    let asked : IsAsked c.args.words.now = (c.in_ok-asked.asked.profile, c.in_ok-asked.asked.word, c.in_ok-asked.ensures.found) in
    rw (p.1, p.2) (source_answer (g.F.Folder.told c.args.folder.now) (g.T.Tree.told c.args.source.now) c.args.words.now _ c.in_err-catalog.field-0.0 asked c.in_ok-check_bare.ensures.bare c.in_err-catalog.ensures.refused)

pub returns-in_err-unit-clause-refused : goal.returns-in_err-unit-clause-refused
returns-in_err-unit-clause-refused g c =
    let p = err_from_is_err_and c.from_residual-in_err-unit.result c.from_residual-in_err-unit.ensures.1 in
    let asked : IsAsked c.args.words.now = (c.in_ok-asked.asked.profile, c.in_ok-asked.asked.word, c.in_ok-asked.ensures.found) in
    let F : Type 0 = Rose (g.F.Folder.faults c.args.folder.now) (g.F.Folder.faults c.check_bare.new.folder) in
    let S : Type 0 = Rose (g.T.Tree.faults c.args.source.now) (g.T.Tree.faults c.read_source.new.source) in
    let G : Status → Type 0 = λ s. (s ≡ Unknown c.in_ok-asked.asked.word) × FindsNone c.in_ok-asked.asked.word c.in_ok-catalog.catalog in
    rw (p.1, p.2) (stage_stopped (IsAsked c.args.words.now) F S G c.in_err-unit.field-0.0 asked c.in_err-unit.ensures.refused)

pub returns-in_err-unit-clause-answer : goal.returns-in_err-unit-clause-answer
returns-in_err-unit-clause-answer g c =
    let p = err_from_is_err_and c.from_residual-in_err-unit.result c.from_residual-in_err-unit.ensures.1 in
    rw (p.1, p.2) (named_answer (g.F.Folder.told c.args.folder.now) (g.T.Tree.told c.args.source.now) c.args.words.now c.in_ok-asked.asked.profile c.in_ok-asked.asked.word c.in_ok-catalog.catalog c.in_err-unit.field-0.0 c.in_ok-asked.ensures.found c.in_ok-check_bare.ensures.bare c.in_ok-catalog.ensures.found c.in_err-unit.ensures.refused)

pub returns-in_err-plan-clause-refused : goal.returns-in_err-plan-clause-refused
returns-in_err-plan-clause-refused g c =
    let p = err_from_is_err_and c.from_residual-in_err-plan.result c.from_residual-in_err-plan.ensures.1 in
    let asked : IsAsked c.args.words.now = (c.in_ok-asked.asked.profile, c.in_ok-asked.asked.word, c.in_ok-asked.ensures.found) in
    let F : Type 0 = Rose (g.F.Folder.faults c.args.folder.now) (g.F.Folder.faults c.check_bare.new.folder) in
    let S : Type 0 = Rose (g.T.Tree.faults c.args.source.now) (g.T.Tree.faults c.read_source.new.source) in
    rw (p.1, p.2) (stage_stopped (IsAsked c.args.words.now) F S (IsUnplanned c.in_ok-asked.asked.profile c.in_ok-unit.unit) c.in_err-plan.field-0.0 asked c.in_err-plan.ensures.refused)

pub returns-in_err-plan-clause-answer : goal.returns-in_err-plan-clause-answer
returns-in_err-plan-clause-answer g c =
    let p = err_from_is_err_and c.from_residual-in_err-plan.result c.from_residual-in_err-plan.ensures.1 in
    let told = g.F.Folder.told c.args.folder.now in
    let files = g.T.Tree.told c.args.source.now in
    let choice = chosen told files c.args.words.now c.in_ok-asked.asked.profile c.in_ok-asked.asked.word c.in_ok-catalog.catalog c.in_ok-unit.unit c.in_ok-asked.ensures.found c.in_ok-check_bare.ensures.bare c.in_ok-catalog.ensures.found c.in_ok-unit.ensures.found in
    rw (p.1, p.2) (planned_answer told files c.args.words.now c.in_ok-asked.asked.profile c.in_ok-unit.unit c.in_err-plan.field-0.0 choice c.in_err-plan.ensures.refused)

pub returns-clause-asked : goal.returns-clause-asked
returns-clause-asked g c = (c.in_ok-asked.asked.profile, c.in_ok-asked.asked.word, c.in_ok-asked.ensures.found)

pub returns-clause-found : goal.returns-clause-found
returns-clause-found g c =
    let told = g.F.Folder.told c.args.folder.now in
    let files = g.T.Tree.told c.args.source.now in
    let choice = chosen told files c.args.words.now c.in_ok-asked.asked.profile c.in_ok-asked.asked.word c.in_ok-catalog.catalog c.in_ok-unit.unit c.in_ok-asked.ensures.found c.in_ok-check_bare.ensures.bare c.in_ok-catalog.ensures.found c.in_ok-unit.ensures.found in
    installed told files c.args.words.now c.in_ok-asked.asked.profile c.in_ok-unit.unit c.in_ok-plan.plan choice c.in_ok-plan.ensures.is_built c.in_ok-plan.ensures.same c.in_ok-plan.ensures.ready

pub returns-clause-bare : goal.returns-clause-bare
returns-clause-bare g c =
    still_bare (g.F.Folder.told c.args.folder.now) (g.F.Folder.told c.check_bare.new.folder) c.in_ok-check_bare.ensures.stays c.in_ok-check_bare.ensures.bare
