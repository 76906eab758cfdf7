use Rattle.std.proofs.Common.{ℕ, ℤ, pos, ◌≤ℤ◌, subst, arith}
use Rattle.std.proofs.lemmas.Int.{ints}
use Rattle.pb_core.specs.ConstraintAt.{constraint_at}
use Rattle.pb_core.specs.Slack.{greatest_coef}
use Rattle.pb_core.proofs.PropagationLaws.{wide_slack_rests}
use Rattle.pb_trail.proofs.trail.Trail.visit.Goals as goal

pub returns-then-greatest-room-clause-rests : goal.returns-then-greatest-room-clause-rests
returns-then-greatest-room-clause-rests g c =
    let wide : pos c.greatest.result ≤ℤ c.slack-slack.result = omega (arith, ints) in
    let P : ℕ → Type 0 = λ n. pos n ≤ℤ c.slack-slack.result in
    let Q : ℤ → Type 0 = λ z. pos (greatest_coef (constraint_at c.args.self.now.kept.constraints c.args.number).terms) ≤ℤ z in
    wide_slack_rests c.args.self.now.kept.values (constraint_at c.args.self.now.kept.constraints c.args.number) (subst Q c.slack-slack.ensures (subst P c.greatest.ensures wide))
