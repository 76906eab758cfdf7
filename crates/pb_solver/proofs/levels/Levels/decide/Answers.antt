use Rattle.std.proofs.Common.{◌≡◌, ◌++◌, ◌∷◌, [], ℕ, List, length, sym, ap, subst, ◌∙◌, arith}
use Rattle.pb_solver.specs.Levels.{AreLevels}
use Rattle.pb_solver.proofs.LevelLaws.{AreLevels-decided}
use Rattle.pb_solver.proofs.levels.Levels.decide.Goals as goal

pub returns-clause-holds : goal.returns-clause-holds
returns-clause-holds g c =
    let first : length c.args.self.now.trail.entries.items ≡ c.len.result = omega (arith, c.len.ensures, c.args.self.now.trail.entries.ok.0) in
    let starts : c.args.self.now.starts.items ++ length c.args.self.now.trail.entries.items ∷ [] ≡ c.push.new.self.items = ap (λ (n : ℕ). c.args.self.now.starts.items ++ n ∷ []) first ∙ sym c.in_ok-push.ensures.items in
    let P : List ℕ → Type 0 = λ ss. AreLevels c.decide-found.new.self ss in
    subst P starts (AreLevels-decided c.args.self.now.trail c.decide-found.new.self c.args.self.now.starts.items c.args.lit c.requires.holds c.decide-found.ensures.good c.decide-found.ensures.grows c.requires.rest)
