use Rattle.pb_solver.proofs.LevelLaws.{AreLevels-grown}
use Rattle.pb_solver.proofs.levels.Levels.settle.Goals as goal

pub returns-clause-holds : goal.returns-clause-holds
returns-clause-holds g c =
    AreLevels-grown c.args.self.now.trail c.settle-found.new.self c.args.self.now.starts.items c.requires.holds c.settle-found.ensures.good c.settle-found.ensures.grows
