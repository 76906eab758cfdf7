use Rattle.std.proofs.Common.{◌≢◌, sym, ◌∙◌}
use Rattle.std.proofs.lemmas.Bool.{false≢true}
use Rattle.install_journal.specs.declared.plan.OldKind.TheVariants.{Nothing}
use Rattle.install_journal.proofs.FittingsLoose.{loose_told}
use Rattle.install_journal.proofs.fitting.is_loose.Goals as goal
use Rattle.install_journal.proofs.fitting.is_loose.Goals.{in-Nothing, in_default}

pub returns-clause-found : goal.returns-clause-found
returns-clause-found g c =
    let some : c.args.one.now.kind ≢ Nothing = elim c.match-matches.branch [ in-Nothing w ↦ absurd (false≢true (sym c.if-matches.false ∙ w.matches-is)) | in_default w ↦ w.in_default.not-Nothing ] in
    loose_told (g.F.Folder.told c.args.folder.now) c.args.oldest.now c.args.one.now c.in_ok-above.above c.in_ok-directory.directory some c.in_ok-above.ensures c.in_ok-directory.ensures.found
