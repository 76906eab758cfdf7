use Rattle.std.proofs.Common.{ℕ, List, length, All, sym, subst, arith}
use Rattle.pb_core.specs.AtLeast.{at_least}
use Rattle.pb_core.specs.Normal.{IsNormalOver}
use Rattle.pb_core.specs.declared.constraint.Constraint.{Constraint}
use Rattle.unit_model.specs.declared.unit.Unit.{Unit as Package}
use Rattle.pb_rows.specs.Normalising.{AreNormalised}
use Rattle.pb_rows.specs.Rows.{rows}
use Rattle.pb_rows.proofs.AmongLaws.{rows_over, normal_over}
use Rattle.pb_rows.proofs.RowsLaws.{constraints_say_valid}
use Rattle.unit_catalog.specs.Order.{units_at}
use Rattle.pb_rows.proofs.UniqueForms.{terms_counted}
use Rattle.pb_encode.proofs.MemberLaws.{length_members, distinct_names}
use Rattle.pb_encode.proofs.problem.encode.Goals as goal

are_normalised : (c : goal.After-drop-members-2) → AreNormalised (rows (units_at c.args.catalog.now c.args.members.now) c.args.roots.now c.args.env.now) c.into_list.result
are_normalised c =
    let P : List Package → Type 0 = λ ms. AreNormalised (rows ms c.args.roots.now c.args.env.now) c.in_ok-constraints.constraints in
    let Q : List Constraint → Type 0 = λ cs. AreNormalised (rows (units_at c.args.catalog.now c.args.members.now) c.args.roots.now c.args.env.now) cs in
    subst Q (sym c.into_list.ensures.value) (subst P c.in_ok-members.ensures.units c.in_ok-constraints.ensures.ok)

pub returns-clause-normal : goal.returns-clause-normal
returns-clause-normal c =
    let ms = units_at c.args.catalog.now c.args.members.now in
    let given = rows ms c.args.roots.now c.args.env.now in
    let P : ℕ → Type 0 = λ n. All (λ (k : Constraint). IsNormalOver n (at_least k)) c.into_list.result in
    subst P (length_members c.args.catalog.now c.args.members.now c.requires.there)
    (normal_over (length ms) given c.into_list.result (are_normalised c) (rows_over ms c.args.roots.now c.args.env.now))

pub returns-clause-valid : goal.returns-clause-valid
returns-clause-valid c = λ full apply.
    constraints_say_valid full (units_at c.args.catalog.now c.args.members.now) c.args.roots.now c.args.env.now c.into_list.result (distinct_names c.args.catalog.now c.args.members.now c.requires) apply (are_normalised c)

pub returns-clause-not_too_large : goal.returns-clause-not_too_large
returns-clause-not_too_large c = λ more.
    let many = terms_counted 4000000 (rows (units_at c.args.catalog.now c.args.members.now) c.args.roots.now c.args.env.now) c.into_list.result (are_normalised c) more in
    let few = c.into_list.ensures.few in
    absurd (omega arith)
