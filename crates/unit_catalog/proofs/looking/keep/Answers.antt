use Rattle.std.proofs.Common.{◌≡◌, ◌++◌, [], ◌∷◌, true, rules}
use Rattle.unit_catalog.proofs.Finding.{matching_skip, matching_more}
use Rattle.unit_catalog.proofs.looking.keep.Goals as goal

pub returns-then-not-matches_at : goal.returns-then-not-matches_at
returns-then-not-matches_at c = λ numbers below some.
    matching_skip c.args.units.now c.args.required.now numbers c.args.found.now.items c.args.number (λ has. let t : c.matches_at.result ≡ true = c.matches_at.ensures.1 has in absurd (cc)) some

pub returns : goal.returns
returns c = λ numbers below some.
    let grown : c.push.new.self.items ≡ c.args.found.now.items ++ c.args.number ∷ [] = search rules in
    rw grown (matching_more c.args.units.now c.args.required.now numbers c.args.found.now.items c.args.number (c.matches_at.ensures.0 c.if-not-matches_at.false) below some)
