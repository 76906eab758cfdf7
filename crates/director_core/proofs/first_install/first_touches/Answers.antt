use Rattle.std.proofs.Common.{sym, subst, ◌∙◌, ◌≤◌, length, List, ℕ}
use Rattle.std.specs.Prelude.{codes}
use Rattle.folder_core.specs.Name.{IsName}
use Rattle.director_core.proofs.Names.{three_names, profile_is_name, profiles_is_name, state_is_name, current_is_name}
use Rattle.director_core.proofs.first_install.first_touches.Goals as goal

pub file-requires-clause-names : goal.file-requires-clause-names
file-requires-clause-names c =
    three_names (codes "profiles") c.as_str-profile.result.now (codes "1.state") profiles_is_name
    (subst IsName (sym c.as_str-profile.ensures) (profile_is_name c.args.plan.now.profile c.requires.profile)) state_is_name

pub file-requires-clause-small : goal.file-requires-clause-small
file-requires-clause-small c =
    let P : List ℕ → Type 0 = λ text. length text ≤ 67108864 in
    subst P (sym (c.in_ok-state.ensures ∙ c.requires.state)) c.requires.fits

pub file-requires-2-clause-names : goal.file-requires-2-clause-names
file-requires-2-clause-names c =
    three_names (codes "profiles") c.as_str-profile.result.now (codes "current") profiles_is_name
    (subst IsName (sym c.as_str-profile.ensures) (profile_is_name c.args.plan.now.profile c.requires.profile)) current_is_name
