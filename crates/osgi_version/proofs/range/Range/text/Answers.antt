use Rattle.std.proofs.lemmas.Result.{IfOk-weaker}
use Rattle.osgi_version.proofs.RangeSpelling.{interval_reads_back}
use Rattle.osgi_version.proofs.range.Range.text.Goals as goal

pub returns-in-Some-clause-reads_back : goal.returns-in-Some-clause-reads_back
returns-in-Some-clause-reads_back c =
    IfOk-weaker c.interval_text.result _ _
    (λ text made. interval_reads_back c.args.self.now c.in-Some.ceiling c.in_ok-floor.floor text c.requires c.in-Some.is c.in_ok-floor.ensures.canonical made) c.interval_text.ensures
