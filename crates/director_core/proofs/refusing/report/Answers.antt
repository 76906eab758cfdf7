use Rattle.folder_core.specs.Cause.{Rose}
use Rattle.director_core.proofs.Reports.{reported}
use Rattle.director_core.proofs.refusing.report.Goals as goal

pub returns-clause-prints : goal.returns-clause-prints
returns-clause-prints g c =
    reported (Rose (g.K.Sink.faults c.args.out.now) (g.K.Sink.faults c.write_all.new.out)) c.args.status c.short_line.result.now (g.K.Sink.told c.args.out.now) (g.K.Sink.told c.write_all.new.out) c.write_all.result
    c.short_line.ensures c.write_all.ensures.ok c.write_all.ensures.front c.write_all.ensures.cause.failed
