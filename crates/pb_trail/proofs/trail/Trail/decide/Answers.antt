use Rattle.std.proofs.Common.{◌≡◌, ℕ, length, subst, arith}
use Rattle.pb_trail.specs.Rest.{RestOrTouched}
use Rattle.pb_trail.proofs.PassLaws.{decided_rest, IsDecided-grown}
use Rattle.pb_trail.proofs.trail.Trail.decide.Goals as goal

pub propagate-found-requires-clause-rest : goal.propagate-found-requires-clause-rest
propagate-found-requires-clause-rest g c =
    let first : length c.args.self.now.entries.items ≡ c.len-first.result = omega (arith, c.len-first.ensures, c.args.self.now.entries.ok.0) in
    let P : ℕ → Type 0 = λ n. RestOrTouched c.make_true.new.self n in
    subst P first (decided_rest c.args.self.now c.make_true.new.self c.requires.good c.make_true.ensures.good c.make_true.ensures.extends c.requires.rest)

pub returns-clause-grows : goal.returns-clause-grows
returns-clause-grows g c = IsDecided-grown c.args.self.now c.make_true.new.self c.propagate-found.new.self c.args.lit c.make_true.ensures.extends c.make_true.ensures.entries c.propagate-found.ensures.grows
