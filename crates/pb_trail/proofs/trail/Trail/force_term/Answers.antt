use Rattle.std.proofs.Common.{◌≡◌, ◌<◌, ◌+◌, false, true, List, length, get_or, sym, ap, subst, ◌∙◌, arith}
use Rattle.std.proofs.lemmas.List.{get_or_default}
use Rattle.pb_core.specs.AtLeast.{AtLeast}
use Rattle.pb_core.specs.ConstraintAt.{constraint_at}
use Rattle.pb_core.specs.Slack.{reachable}
use Rattle.pb_core.specs.Values.{is_open}
use Rattle.pb_core.specs.declared.literal.Term.{Term}
use Rattle.std.proofs.Common.{Option, Bool}
use Rattle.pb_trail.proofs.ForceLaws.{forced_reach}
use Rattle.pb_trail.proofs.trail.Trail.force_term.Goals as goal

abbrev none : Term
none = record { coef = 0; lit = record { variable = 0; positive = false } }

pub returns-clause-room : goal.returns-clause-room
returns-clause-room g c =
    let trail = c.args.self.now in
    let t = get_or c.terms.result.now c.args.place none in
    let within : c.args.place < length c.terms.result.now = omega (arith, c.requires.place, ap length c.terms.ensures) in
    let is : get_or (constraint_at c.args.self.now.kept.constraints c.args.number).terms c.args.place (get_or c.terms.result.now c.args.place none) ≡ get_or c.terms.result.now c.args.place none = ap (λ (ts : List Term). get_or ts c.args.place (get_or c.terms.result.now c.args.place none)) (sym c.terms.ensures) ∙ get_or_default c.terms.result.now c.args.place (get_or c.terms.result.now c.args.place none) none within in
    let unset : is_open c.args.self.now.kept.values (get_or c.terms.result.now c.args.place none).lit ≡ true = sym (rw c.values.ensures at c.is_open.ensures) ∙ c.if-not-is_open.false in
    let same : constraint_at c.make_true.new.self.kept.constraints c.args.number ≡ constraint_at c.args.self.now.kept.constraints c.args.number = ap (λ (cs : List AtLeast). constraint_at cs c.args.number) c.make_true.ensures.constraints in
    let reach = forced_reach c.args.self.now c.args.number c.args.place (get_or c.terms.result.now c.args.place none) c.requires.good c.requires.from_one c.requires.within c.requires.place is unset in
    let P : AtLeast → Type 0 = λ x. c.args.room + x.degree ≡ reachable c.make_true.new.self.kept.values x.terms in
    subst P (sym same) (c.requires.room ∙ (sym reach ∙ sym (ap (λ (vs : List (Option Bool)). reachable vs (constraint_at c.args.self.now.kept.constraints c.args.number).terms) c.make_true.ensures.values)))
