use Rattle.std.proofs.Common.{◌≡◌, ◌++◌, ◌∷◌, [], w64}
use Rattle.std.proofs.lemmas.Int.{to_z-of_z}
use Rattle.pb_rows.specs.Normalising.{IsNormalOf}
use Rattle.pb_rows.specs.Rows.{Row}
use Rattle.pb_rows.proofs.AddingLaws.{OnOk-then, IfErr-then}
use Rattle.pb_rows.proofs.NormalisingLaws.{normalised_kept, normalised_left, more_terms_now}
use Rattle.pb_rows.proofs.constraints.Constraints.push.Goals as goal

-- the row's constraint
kept : (c : goal.After-keep) → IsNormalOf (record { terms = c.args.terms.now; degree = c.args.degree; origin = c.args.origin }) c.in-Some.constraint
kept c = record {
  normalised = rw (to_z-of_z w64 c.args.degree c.ranges.degree) at (rw c.in-Some.is at c.in_ok-constraint.ensures.exact);
  normal = rw c.in-Some.is at c.in_ok-constraint.ensures.normal;
  among = rw c.in-Some.is at c.in_ok-constraint.ensures.among;
  origin = rw c.in-Some.is at c.in_ok-constraint.ensures.origin;
}

pub returns-in-Some-clause-added : goal.returns-in-Some-clause-added
returns-in-Some-clause-added c =
    let row : Row = record { terms = c.args.terms.now; degree = c.args.degree; origin = c.args.origin } in
    OnOk-then c.keep.result _ _ (λ (e : c.keep.new.self ≡ c.args.self.now ++ c.in-Some.constraint ∷ []). λ before n. rw e (normalised_kept before row c.args.self.now c.in-Some.constraint n (kept c))) c.keep.ensures.kept

pub returns-in-Some-clause-too_large : goal.returns-in-Some-clause-too_large
returns-in-Some-clause-too_large c =
    let row : Row = record { terms = c.args.terms.now; degree = c.args.degree; origin = c.args.origin } in
    IfErr-then c.keep.result _ _ (λ fault many e before n. more_terms_now 4000000 (before ++ row ∷ []) (c.args.self.now ++ c.in-Some.constraint ∷ []) (normalised_kept before row c.args.self.now c.in-Some.constraint n (kept c)) (many e)) c.keep.ensures.too_large

pub returns-in-None-clause-added : goal.returns-in-None-clause-added
returns-in-None-clause-added c =
    let row : Row = record { terms = c.args.terms.now; degree = c.args.degree; origin = c.args.origin } in
    let always = rw c.in-None.is at c.in_ok-constraint.ensures.none in
    λ before n. normalised_left before row c.args.self.now n (λ full. rw (to_z-of_z w64 c.args.degree c.ranges.degree) at (always full))
