use Rattle.folder_core.specs.Cause.{Rose}
use Rattle.director_words.specs.declared.status.Status.{Status}
use Rattle.director_core.specs.Answer.{IsAsked}
use Rattle.director_core.specs.Durable.{IsDurable}
use Rattle.folder_core.specs.Step.{OnTold}
use Rattle.director_core.proofs.Endings.{stopped_uncommitted, failed_committed}
use Rattle.director_core.proofs.Commands.{stopped_answer, stopped_only, stopped_stays, stopped_printed, done_only, failed_printed}
use Rattle.director_core.proofs.RunSteps.{failed_stays, rose_later, stopped_causes}
use Rattle.director_core.proofs.command.run.Goals as goal

pub perform-requires-clause-bare : goal.perform-requires-clause-bare
perform-requires-clause-bare g c = c.in-Ok.ensures.bare

pub returns-clause-answer : goal.returns-clause-answer
returns-clause-answer g c =
    stopped_answer (g.F.Folder.told c.args.folder.now) (g.T.Tree.told c.args.source.now) c.args.words.now c.in-Err.status c.refuse-in-Err.result
    (Rose (g.K.Sink.faults c.args.out.now) (g.K.Sink.faults c.refuse-in-Err.new.out)) c.refuse-in-Err.ensures.ends c.in-Err.ensures.answer

pub returns-clause-only : goal.returns-clause-only
returns-clause-only g c =
    stopped_only (g.F.Folder.told c.args.folder.now) (g.T.Tree.told c.args.source.now) c.args.words.now c.in-Err.status c.refuse-in-Err.result
    (Rose (g.K.Sink.faults c.args.out.now) (g.K.Sink.faults c.refuse-in-Err.new.out)) c.refuse-in-Err.ensures.ends c.in-Err.ensures.answer

pub returns-clause-leaves : goal.returns-clause-leaves
returns-clause-leaves g c =
    let asked : Type 0 = IsAsked c.args.words.now in
    stopped_stays (g.F.Folder.told c.args.folder.now) (g.F.Folder.told c.decide.new.folder) (g.T.Tree.told c.args.source.now) c.args.words.now
    (asked → ⊥) (asked × Rose (g.F.Folder.faults c.args.folder.now) (g.F.Folder.faults c.decide.new.folder)) (asked × Rose (g.T.Tree.faults c.args.source.now) (g.T.Tree.faults c.decide.new.source)) (λ (s : Status). asked)
    (Rose (g.K.Sink.faults c.args.out.now) (g.K.Sink.faults c.refuse-in-Err.new.out)) c.in-Err.status c.refuse-in-Err.result
    c.in-Err.ensures.refused c.refuse-in-Err.ensures.ends c.in-Err.ensures.stays

pub returns-clause-prints : goal.returns-clause-prints
returns-clause-prints g c =
    let asked : Type 0 = IsAsked c.args.words.now in
    stopped_printed (g.F.Folder.told c.args.folder.now) (g.T.Tree.told c.args.source.now) (g.K.Sink.told c.args.out.now) (g.K.Sink.told c.refuse-in-Err.new.out) c.args.words.now
    (asked → ⊥) (asked × Rose (g.F.Folder.faults c.args.folder.now) (g.F.Folder.faults c.decide.new.folder)) (asked × Rose (g.T.Tree.faults c.args.source.now) (g.T.Tree.faults c.decide.new.source)) (λ (s : Status). asked)
    (Rose (g.K.Sink.faults c.args.out.now) (g.K.Sink.faults c.refuse-in-Err.new.out)) c.in-Err.status c.refuse-in-Err.result
    c.in-Err.ensures.refused c.refuse-in-Err.ensures.ends c.in-Err.ensures.answer c.refuse-in-Err.ensures.prints

pub returns-in-Ok-perform-clause-only : goal.returns-in-Ok-perform-clause-only
returns-in-Ok-perform-clause-only g c =
    done_only (g.F.Folder.told c.args.folder.now) (g.T.Tree.told c.args.source.now) c.args.words.now c.in-Ok.plan.profile c.in-Ok.plan.unit c.in-Ok.ensures.found

pub returns-in-Ok-clause-prints : goal.returns-in-Ok-clause-prints
returns-in-Ok-clause-prints g c =
    failed_printed (g.F.Folder.told c.args.folder.now) (g.T.Tree.told c.args.source.now) (g.K.Sink.told c.args.out.now) (g.K.Sink.told c.perform.new.out) (g.K.Sink.told c.refuse.new.out) c.args.words.now
    c.in-Ok.plan.profile c.in-Ok.plan.unit
    (Rose (g.F.Folder.faults c.decide.new.folder) (g.F.Folder.faults c.perform.new.folder)) (Rose (g.K.Sink.faults c.args.out.now) (g.K.Sink.faults c.perform.new.out))
    (Rose (g.K.Sink.faults c.perform.new.out) (g.K.Sink.faults c.refuse.new.out)) (Rose (g.K.Sink.faults c.args.out.now) (g.K.Sink.faults c.refuse.new.out)) c.in-Err-perform.status c.refuse.result
    (rose_later (g.K.Sink.faults c.args.out.now) (g.K.Sink.faults c.perform.new.out) (g.K.Sink.faults c.refuse.new.out) c.in-Err-perform.ensures.later_sink)
    c.in-Err-perform.ensures.failed c.refuse.ensures.ends c.in-Ok.ensures.found c.in-Err-perform.ensures.prints c.refuse.ensures.prints

pub returns-clause-durable : goal.returns-clause-durable
returns-clause-durable g c =
    let asked : Type 0 = IsAsked c.args.words.now in
    stopped_uncommitted
    (asked → ⊥) (asked × Rose (g.F.Folder.faults c.args.folder.now) (g.F.Folder.faults c.decide.new.folder)) (asked × Rose (g.T.Tree.faults c.args.source.now) (g.T.Tree.faults c.decide.new.source)) (λ (s : Status). asked)
    (Rose (g.K.Sink.faults c.args.out.now) (g.K.Sink.faults c.refuse-in-Err.new.out)) (OnTold (g.F.Folder.told c.decide.new.folder) IsDurable) c.in-Err.status c.refuse-in-Err.result
    c.in-Err.ensures.refused c.refuse-in-Err.ensures.ends

pub returns-in-Ok-clause-durable : goal.returns-in-Ok-clause-durable
returns-in-Ok-clause-durable g c =
    failed_committed
    (Rose (g.F.Folder.faults c.decide.new.folder) (g.F.Folder.faults c.perform.new.folder)) (Rose (g.K.Sink.faults c.args.out.now) (g.K.Sink.faults c.perform.new.out))
    (Rose (g.K.Sink.faults c.perform.new.out) (g.K.Sink.faults c.refuse.new.out)) (OnTold (g.F.Folder.told c.perform.new.folder) IsDurable) c.in-Err-perform.status c.refuse.result
    c.in-Err-perform.ensures.failed c.refuse.ensures.ends c.in-Err-perform.ensures.durable

pub returns-in-Ok-clause-leaves : goal.returns-in-Ok-clause-leaves
returns-in-Ok-clause-leaves g c =
    failed_stays (g.F.Folder.told c.args.folder.now) (g.F.Folder.told c.decide.new.folder) (g.F.Folder.told c.perform.new.folder) (g.T.Tree.told c.args.source.now) c.args.words.now
    c.in-Ok.plan.profile c.in-Ok.plan.unit
    (Rose (g.F.Folder.faults c.decide.new.folder) (g.F.Folder.faults c.perform.new.folder)) (Rose (g.K.Sink.faults c.args.out.now) (g.K.Sink.faults c.perform.new.out))
    (Rose (g.K.Sink.faults c.perform.new.out) (g.K.Sink.faults c.refuse.new.out)) c.in-Err-perform.status c.refuse.result
    c.in-Err-perform.ensures.failed c.refuse.ensures.ends c.in-Ok.ensures.found c.in-Ok.ensures.stays c.in-Err-perform.ensures.leaves

pub returns-clause-causes : goal.returns-clause-causes
returns-clause-causes g c =
    let asked : Type 0 = IsAsked c.args.words.now in
    stopped_causes asked
    (Rose (g.F.Folder.faults c.args.folder.now) (g.F.Folder.faults c.decide.new.folder)) (Rose (g.T.Tree.faults c.args.source.now) (g.T.Tree.faults c.decide.new.source))
    (Rose (g.K.Sink.faults c.args.out.now) (g.K.Sink.faults c.refuse-in-Err.new.out)) (λ (s : Status). asked) c.in-Err.status c.refuse-in-Err.result
    c.in-Err.ensures.refused c.refuse-in-Err.ensures.ends
