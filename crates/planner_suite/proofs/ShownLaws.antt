-- An evidence that the planner gives has a text.
use Rattle.std.proofs.Common.{◌≡◌, ℕ, ◌+◌, ◌≤◌, inl, inr, List, length, ap, ◌∙◌, arith}
use Rattle.std.proofs.lemmas.List.{length-map}
use Rattle.ldap_filter.specs.EnvPairs.{EnvPair}
use Rattle.unit_model.specs.declared.name.UnitName.{UnitName}
use Rattle.unit_model.specs.declared.unit.Unit.{Unit as Package}
use Rattle.unit_catalog.specs.Order.{AreMembers, units_at}
use Rattle.pb_rows.specs.Rows.{label}
use Rattle.pb_encode.proofs.MemberLaws.{length_members, distinct_names}
use Rattle.deriv_check.specs.declared.derivation.Evidence.{Evidence}
use Rattle.p2_planner.specs.Planning.{IsSpentPlan}
use Rattle.p2_planner.specs.Roots.{with_name}
use Rattle.p2_planner.specs.Selecting.{IsAskedFor, IsRefuted, IsSpentFor}
use Rattle.director_plan.proofs.NamedLaws.{named, labelled}
use Rattle.director_plan.specs.EvidenceLines.{CanShow}

module _ (units : List Package) (slice : List ℕ) (env : List EnvPair) (budget : ℕ) (small : budget ≤ 50000) (members : AreMembers units slice) (e : Evidence) where
  shown : (roots : List UnitName) → IsAskedFor (units_at units slice) roots env e.problem → length e.derivation.lines ≤ budget + 1 → CanShow e
  shown roots asked few =
      let size : length e.problem.labels ≡ length slice =
      ap length asked.rows.labels ∙ length-map (units_at units slice) (λ (u : Package). label u.name) ∙ length_members units slice members.there in
      record {
        labels = omega (arith, size, members.few);
        constraints = asked.few;
        lines = omega (arith, few, small);
        normal = asked.normal;
        named = named (units_at units slice) roots env e.problem (distinct_names units slice members) asked.rows;
        labelled = labelled (units_at units slice) roots env e.problem asked.rows;
      }

  pub refuted_shown : (roots : List UnitName) → IsRefuted (units_at units slice) roots env budget e → CanShow e
  refuted_shown roots is = shown roots is.asked is.refutes.few

  spent_for : (roots : List UnitName) → IsSpentFor (units_at units slice) roots env budget e → CanShow e
  spent_for roots is = shown roots is.asked (omega (arith, is.spent.all))

  pub spent_shown : (strict optional : List UnitName) → IsSpentPlan (units_at units slice) strict optional env budget e → CanShow e
  spent_shown strict optional is = elim is [
    | inl first ↦ spent_for strict first
    | inr beside ↦ spent_for (with_name beside.1.root beside.1.before) beside.1.has.1
  ]
