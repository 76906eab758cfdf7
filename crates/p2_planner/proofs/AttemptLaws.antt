-- What a solver's answer means for members.
use Rattle.std.proofs.Common.{◌≡◌, ℕ, ◌+◌, Bool, true, false, List, length, map, refl, sym, ap, ◌∙◌, subst, arith}
use Rattle.std.specs.Prelude.{◌↔◌}
use Rattle.std.proofs.lemmas.List.{length-map}
use Rattle.unit_model.specs.Valid.{IsValid}
use Rattle.unit_model.specs.declared.name.UnitName.{UnitName}
use Rattle.unit_model.specs.declared.unit.Unit.{Unit as Package}
use Rattle.unit_catalog.specs.Order.{units_at}
use Rattle.pb_core.specs.AtLeast.{at_least}
use Rattle.pb_core.specs.Literal.{same_truth}
use Rattle.pb_core.specs.Satisfied.{SatisfiesAll}
use Rattle.pb_core.specs.Values.{has_truth}
use Rattle.pb_core.specs.declared.constraint.Constraint.{Constraint}
use Rattle.pb_core.specs.declared.constraint.Problem.{Problem}
use Rattle.deriv_check.specs.Sound.{AreSound}
use Rattle.deriv_check.specs.declared.derivation.Line.{Line}
use Rattle.pb_rows.specs.Members.{selected}
use Rattle.pb_rows.specs.Rows.{label}
use Rattle.pb_encode.specs.IsProblem.{IsProblem}
use Rattle.pb_encode.proofs.MemberLaws.{length_members}
use Rattle.pb_solver.specs.Answers.{IsAnswer, IsWanted}
use Rattle.pb_solver.specs.Values.{truths}
use Rattle.pb_solver.specs.Wanted.{is_wanted}
use Rattle.pb_solver.specs.declared.answer.Answer.{Answer}
use Rattle.pb_solver.specs.declared.answer.Answer.TheVariants.{Model, Refuted, Spent}
use Rattle.p2_planner.specs.Attempting.{IsAttempt, concluded}
use Rattle.p2_planner.specs.Selecting.{IsAskedFor}
use Rattle.p2_planner.specs.declared.ask.Ask.{Ask}
use Rattle.p2_planner.proofs.PickLaws.{pick_units, pick_members, pick_among, pick_same}

same_true : (b : Bool) → same_truth b true ≡ b
same_true true = refl
same_true false = refl

pub labels_long : (members : List Package) (roots : List UnitName) (env : _) (problem : Problem) → IsProblem members roots env problem → length problem.labels ≡ length members
labels_long members roots env problem is = ap length is.labels ∙ length-map members (λ u. label u.name)

module _ (ask : Ask) (roots : List UnitName) (problem : Problem) where
  abbrev Slice : List Package
  Slice = units_at ask.catalog.now ask.slice.now

  pub problem_long : IsProblem Slice roots ask.env.now problem → length problem.labels ≡ length ask.slice.now
  problem_long is = labels_long Slice roots ask.env.now problem is ∙ length_members ask.catalog.now ask.slice.now ask.members.there

  pub attempt_is : IsAskedFor Slice roots ask.env.now problem
      → ((full : ℕ → Bool) → SatisfiesAll full (map at_least problem.constraints) ↔ IsValid (selected full Slice) roots ask.env.now)
      → ((variables : ℕ) (constraints : List Constraint) (lines : List Line) → AreSound variables constraints lines)
      → (answer : Answer) → IsAnswer (length problem.labels) problem.constraints ask.budget answer
      → (SatisfiesAll (is_wanted ask.preferred.now) (map at_least problem.constraints) → IsWanted (is_wanted ask.preferred.now) answer)
      → IsAttempt ask roots (concluded ask.slice.now problem answer)
  attempt_is is valid sound (Model values) model wanted = record {
    members = pick_members ask.catalog.now (truths values) ask.slice.now ask.members;
    full = truths values;
    picked_by = refl;
    among = pick_among (truths values) ask.slice.now;
    valid = subst (λ (us : List Package). IsValid us roots ask.env.now) (sym (pick_units ask.catalog.now 1 (truths values) ask.slice.now ask.members.there)) ((valid (truths values)).0 model.satisfies);
    preferred = λ fits.
        let wish = is_wanted ask.preferred.now in
        let chosen : IsValid (selected wish Slice) roots ask.env.now = subst (λ (us : List Package). IsValid us roots ask.env.now) (pick_units ask.catalog.now 1 wish ask.slice.now ask.members.there) fits in
        let given = wanted ((valid wish).1 chosen) in
        let long : length values ≡ length ask.slice.now = model.size ∙ problem_long is.rows in
        pick_same 1 (truths values) wish ask.slice.now
        (λ j inside. ap (λ v. has_truth v true) (given (1 + j) (omega arith) (omega arith)) ∙ same_true (wish (1 + j)));
  }
  attempt_is is valid sound (Refuted derivation) refuted wanted = record {
    asked = is;
    refutes = refuted;
    none = λ full fits.
        let shown = refuted.refutes in
        (sound (length problem.labels) problem.constraints derivation.lines shown.0).1 shown.1 full ((valid full).1 fits);
  }
  attempt_is is valid sound (Spent derivation) spent wanted = record { asked = is; spent = spent }
