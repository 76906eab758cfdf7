use Rattle.std.proofs.Common.{inr, ◌∙◌}
use Rattle.director_words.specs.declared.command.Verb.TheVariants as verb
use Rattle.director_words.proofs.Requests.{made_by, only_plan, no_plan, passed_on, install, remove, update, set_env}
use Rattle.director_words.proofs.request.request_of.Goals as goal

pub returns-in_err-profile-in-Install-clause-only : goal.returns-in_err-profile-in-Install-clause-only
returns-in_err-profile-in-Install-clause-only c = λ request e h.
    let made = made_by verb.Install c.args.values request (e ∙ c.in-Install.is) h in
    let why = c.in_err-profile-in-Install.field-0.0 in
    let none = no_plan c.plan_of_roots.result why made.0 c.in_err-profile-in-Install.was (c.plan_of_roots.ensures.only made.0 made.1) in
    inr (passed_on c.from_residual.result why c.from_residual.ensures.1 none)

pub returns-in_ok-profile-in-Install-clause-only : goal.returns-in_ok-profile-in-Install-clause-only
returns-in_ok-profile-in-Install-clause-only c = λ request e h.
    let made = made_by verb.Install c.args.values request (e ∙ c.in-Install.is) h in
    only_plan install c.plan_of_roots.result c.in_ok-profile-in-Install.field-0 made.0 request c.in_ok-profile-in-Install.was made.2 (c.plan_of_roots.ensures.only made.0 made.1)

pub returns-in_err-profile-in-Remove-clause-only : goal.returns-in_err-profile-in-Remove-clause-only
returns-in_err-profile-in-Remove-clause-only c = λ request e h.
    let made = made_by verb.Remove c.args.values request (e ∙ c.in-Remove.is) h in
    let why = c.in_err-profile-in-Remove.field-0.0 in
    let none = no_plan c.plan_of_roots-in-Remove.result why made.0 c.in_err-profile-in-Remove.was (c.plan_of_roots-in-Remove.ensures.only made.0 made.1) in
    inr (passed_on c.from_residual-in_err-profile-in-Remove.result why c.from_residual-in_err-profile-in-Remove.ensures.1 none)

pub returns-in_ok-profile-in-Remove-clause-only : goal.returns-in_ok-profile-in-Remove-clause-only
returns-in_ok-profile-in-Remove-clause-only c = λ request e h.
    let made = made_by verb.Remove c.args.values request (e ∙ c.in-Remove.is) h in
    only_plan remove c.plan_of_roots-in-Remove.result c.in_ok-profile-in-Remove.field-0 made.0 request c.in_ok-profile-in-Remove.was made.2 (c.plan_of_roots-in-Remove.ensures.only made.0 made.1)

pub returns-in_err-profile-in-Update-clause-only : goal.returns-in_err-profile-in-Update-clause-only
returns-in_err-profile-in-Update-clause-only c = λ request e h.
    let made = made_by verb.Update c.args.values request (e ∙ c.in-Update.is) h in
    let why = c.in_err-profile-in-Update.field-0.0 in
    let none = no_plan c.plan_of_roots-in-Update.result why made.0 c.in_err-profile-in-Update.was (c.plan_of_roots-in-Update.ensures.only made.0 made.1) in
    inr (passed_on c.from_residual-in_err-profile-in-Update.result why c.from_residual-in_err-profile-in-Update.ensures.1 none)

pub returns-in_ok-profile-in-Update-clause-only : goal.returns-in_ok-profile-in-Update-clause-only
returns-in_ok-profile-in-Update-clause-only c = λ request e h.
    let made = made_by verb.Update c.args.values request (e ∙ c.in-Update.is) h in
    only_plan update c.plan_of_roots-in-Update.result c.in_ok-profile-in-Update.field-0 made.0 request c.in_ok-profile-in-Update.was made.2 (c.plan_of_roots-in-Update.ensures.only made.0 made.1)

pub returns-in_err-profile-in-SetEnv-clause-only : goal.returns-in_err-profile-in-SetEnv-clause-only
returns-in_err-profile-in-SetEnv-clause-only c = λ request e h.
    let made = made_by verb.SetEnv c.args.values request (e ∙ c.in-SetEnv.is) h in
    let why = c.in_err-profile-in-SetEnv.field-0.0 in
    let none = no_plan c.plan_of_pairs.result why made.0 c.in_err-profile-in-SetEnv.was (c.plan_of_pairs.ensures.only made.0 made.1) in
    inr (passed_on c.from_residual-in_err-profile-in-SetEnv.result why c.from_residual-in_err-profile-in-SetEnv.ensures.1 none)

pub returns-in_ok-profile-in-SetEnv-clause-only : goal.returns-in_ok-profile-in-SetEnv-clause-only
returns-in_ok-profile-in-SetEnv-clause-only c = λ request e h.
    let made = made_by verb.SetEnv c.args.values request (e ∙ c.in-SetEnv.is) h in
    only_plan set_env c.plan_of_pairs.result c.in_ok-profile-in-SetEnv.field-0 made.0 request c.in_ok-profile-in-SetEnv.was made.2 (c.plan_of_pairs.ensures.only made.0 made.1)
