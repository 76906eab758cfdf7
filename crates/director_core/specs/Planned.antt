-- What a plan holds. Clauses of private functions alone cite this.
use Rattle.std.specs.Prelude.{◌≡◌, ◌≤◌, ◌<◌, ◌⊎◌, ℕ, List, length}
use Rattle.osgi_version.specs.VersionText.{IsVersion}
use Rattle.unit_model.specs.Profile.{IsProfile}
use Rattle.unit_model.specs.declared.unit.Unit.{Unit}
use Rattle.director_words.specs.declared.limit.LimitName.TheVariants.{FileBytes}
use Rattle.director_words.specs.declared.status.Status.{Status}
use Rattle.director_words.specs.declared.status.Status.TheVariants.{NotBuilt, Limit}
use Rattle.director_core.specs.declared.plan.Plan.{Plan}
use Rattle.director_core.specs.Answer.{first_text}
use Rattle.director_core.specs.Built.{IsBuilt}

-- The plan can be performed: it holds the text of the first state.
pub record IsReady (plan : Plan) : Type 0 where
  pub profile : IsProfile plan.profile
  pub version : IsVersion plan.unit.name.version
  pub state : plan.state ≡ first_text plan.profile plan.unit
  pub fits : length (first_text plan.profile plan.unit) ≤ 67108864

-- Why there is no plan for the unit.
abbrev pub IsUnplanned : List ℕ → Unit → Status → Type 0
IsUnplanned profile unit status =
    ((status ≡ NotBuilt) × ¬ (IsBuilt unit))
    ⊎ ((status ≡ Limit FileBytes 67108864) × IsBuilt unit × (67108864 < length (first_text profile unit)))
