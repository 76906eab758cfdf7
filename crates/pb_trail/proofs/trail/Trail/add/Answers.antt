use Rattle.std.proofs.Common.{sym, subst, refl}
use Rattle.pb_core.specs.KeptView.{KeptView}
use Rattle.pb_trail.specs.Trail.{IsTrail}
use Rattle.pb_trail.proofs.TrailLaws.{IsTrail-added}
use Rattle.pb_trail.proofs.trail.Trail.add.Goals as goal

pub returns-clause-good : goal.returns-clause-good
returns-clause-good c =
    IsTrail-added c.args.self.now _ c.args.lits.now c.requires.good c.requires.among c.requires.distinct c.requires.few c.in_ok-add.ensures.constraints c.add.ensures.values refl

pub returns-in_err-add-clause-good : goal.returns-in_err-add-clause-good
returns-in_err-add-clause-good c =
    let P : KeptView → Type 0 = λ k. IsTrail (record { kept = k; entries = c.args.self.now.entries }) in
    subst P (sym c.in_err-add.ensures.err) c.requires.good
