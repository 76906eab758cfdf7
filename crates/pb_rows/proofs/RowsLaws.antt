-- All rows are satisfied exactly where the selected members are valid.
use Rattle.std.proofs.Common.{◌≢◌, ℕ, Bool, IsTrue, List, ◌++◌, map, All, AllPairs, ◌↔◌}
use Rattle.std.proofs.lemmas.List.Elements.{All-append}
use Rattle.ldap_filter.specs.EnvPairs.{EnvPair}
use Rattle.pb_core.specs.AtLeast.{at_least}
use Rattle.pb_core.specs.Satisfied.{SatisfiesAll}
use Rattle.pb_core.specs.declared.constraint.Constraint.{Constraint}
use Rattle.unit_model.specs.Applies.{filter_true}
use Rattle.unit_model.specs.Valid.{IsValid}
use Rattle.unit_model.specs.declared.name.UnitName.{UnitName}
use Rattle.unit_model.specs.declared.unit.Unit.{Unit as Package}
use Rattle.pb_rows.specs.Members.{selected}
use Rattle.pb_rows.specs.Normalising.{Satisfies, AreNormalised}
use Rattle.pb_rows.specs.Rows.{root_rows, requirement_rows, singleton_rows, rows}
use Rattle.pb_rows.proofs.ListLaws.{All-left, All-right, All-selected, AllPairs-selected}
use Rattle.pb_rows.proofs.NormalisingLaws.{constraints_hold}
use Rattle.pb_rows.proofs.RequirementLaws.{requirements_hold}
use Rattle.pb_rows.proofs.RootLaws.{roots_hold}
use Rattle.pb_rows.proofs.SingletonLaws.{singletons_hold}

pub rows_hold : (full : ℕ → Bool) (members : List Package) (roots : List UnitName) (env : List EnvPair) → AllPairs (λ u v. u.name ≢ v.name) members → All (λ u. IsTrue (filter_true env u.filter)) members → All (Satisfies full) (rows members roots env) ↔ IsValid (selected full members) roots env
rows_hold full members roots env distinct apply = (
  λ all.
      let front = All-left (Satisfies full) (root_rows members roots ++ requirement_rows members env) (singleton_rows members) all in
      record {
        distinct = AllPairs-selected (λ u v. u.name ≢ v.name) full members distinct;
        roots = (roots_hold full members roots).0 (All-left (Satisfies full) (root_rows members roots) (requirement_rows members env) front);
        apply = All-selected (λ u. IsTrue (filter_true env u.filter)) full members apply;
        met = (requirements_hold full members env).0 (All-right (Satisfies full) (root_rows members roots) (requirement_rows members env) front);
        apart = (singletons_hold full members).0 (All-right (Satisfies full) (root_rows members roots ++ requirement_rows members env) (singleton_rows members) all);
      },
  λ valid.
      All-append (Satisfies full) (root_rows members roots ++ requirement_rows members env) (singleton_rows members)
      (All-append (Satisfies full) (root_rows members roots) (requirement_rows members env)
      ((roots_hold full members roots).1 valid.roots) ((requirements_hold full members env).1 valid.met))
      ((singletons_hold full members).1 valid.apart),
)

pub constraints_say_valid : (full : ℕ → Bool) (members : List Package) (roots : List UnitName) (env : List EnvPair) (constraints : List Constraint) → AllPairs (λ u v. u.name ≢ v.name) members → All (λ u. IsTrue (filter_true env u.filter)) members → AreNormalised (rows members roots env) constraints → SatisfiesAll full (map at_least constraints) ↔ IsValid (selected full members) roots env
constraints_say_valid full members roots env constraints distinct apply n =
    let one = constraints_hold full (rows members roots env) constraints n in
    let other = rows_hold full members roots env distinct apply in
    (λ s. other.0 (one.0 s), λ valid. one.1 (other.1 valid))
