use Rattle.pb_core.specs.AtLeast.{clause}
use Rattle.pb_solver.proofs.LevelLaws.{AreLevels-added}
use Rattle.pb_solver.proofs.levels.Levels.add.Goals as goal

pub returns-clause-holds : goal.returns-clause-holds
returns-clause-holds c =
    AreLevels-added c.args.self.now.trail c.add.new.self c.args.self.now.starts.items (clause c.args.lits.now) c.requires.holds c.add.ensures.good c.in_ok-add.ensures.constraints c.add.ensures.values c.add.ensures.entries c.requires.rests
