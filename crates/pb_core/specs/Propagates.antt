-- Unit propagation: literals made true one after the other, each forced by a constraint under the values before it.
use Rattle.std.specs.Prelude.{Bool, List, Option, All, Contains}
use Rattle.pb_core.specs.AtLeast.{AtLeast}
use Rattle.pb_core.specs.Values.{make_true}
use Rattle.pb_core.specs.Slack.{IsViolated, Forces}
use Rattle.pb_core.specs.declared.literal.Lit.{Lit}

-- some order of propagation leads from the first values to the second
pub data Propagates : List AtLeast → List (Option Bool) → List (Option Bool) → Type 0 where
  nothing : {constraints : List AtLeast} {values : List (Option Bool)} → Propagates constraints values values
  forced : {constraints : List AtLeast} {values later : List (Option Bool)} (c : AtLeast) (lit : Lit) → Contains constraints c → Forces values c lit → Propagates constraints (make_true values lit) later → Propagates constraints values later

-- no constraint is violated, and none forces an open literal
abbrev pub IsAtRest : List AtLeast → List (Option Bool) → Type 0
IsAtRest constraints values = All (λ c. ¬ (IsViolated values c) × ((lit : Lit) → ¬ (Forces values c lit))) constraints

-- propagation ends in these values
abbrev pub SettlesAt : List AtLeast → List (Option Bool) → List (Option Bool) → Type 0
SettlesAt constraints values later = Propagates constraints values later × IsAtRest constraints later

-- propagation ends in a violation
pub record ReachesViolation (constraints : List AtLeast) (values : List (Option Bool)) : Type 0 where
  pub later : List (Option Bool)
  pub leads : Propagates constraints values later
  pub violated : AtLeast
  pub stands : Contains constraints violated
  pub fails : IsViolated later violated
