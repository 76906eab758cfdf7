-- What is seen of kept slacks, and what holds of the fields.
use Rattle.std.specs.Prelude.{◌≡◌, ◌≢◌, ℕ, ◌+◌, ◌-◌, ◌*◌, ◌^◌, ◌≤◌, ◌<◌, ℤ, pos, Bool, List, [], length, map, Option, All, AllPairs, slice_index_or, if◌then◌else◌, Vec}
use Rattle.std.specs.declared.alloc.Global.{Global}
use Rattle.pb_core.specs.AtLeast.{AtLeast}
use Rattle.pb_core.specs.Normal.{AreAmong}
use Rattle.pb_core.specs.Occurrences.{occurrences_from}
use Rattle.pb_core.specs.Slack.{coef_sum, greatest_coef, slack_of}
use Rattle.pb_core.specs.declared.literal.Lit.{Lit}
use Rattle.pb_core.specs.declared.occurrences.Occurrence.{Occurrence}
use Rattle.pb_core.specs.declared.rows.Row.{Row}

-- the constraints, and the values of the variables
pub record KeptView : Type 0 where
  pub constraints : List AtLeast
  pub values : List (Option Bool)

abbrev pub row_seen : Row → AtLeast
row_seen row = record { terms = row.terms; degree = row.degree }

-- where the occurrences of a literal stand
abbrev pub place_of : Lit → ℕ
place_of lit = 2 * (lit.variable - 1) + (if lit.positive then 0 else 1)

abbrev pub lists_seen : List (Vec Occurrence Global) → List (List Occurrence)
lists_seen lists = map (λ v. v.items) lists

-- a constraint whose slack can be kept: a variable stands in one term at most
pub record IsKeepable (variables : ℕ) (c : AtLeast) : Type 0 where
  pub among : AreAmong variables c.terms
  pub coefs : All (λ t. 0 < t.coef) c.terms
  pub distinct : AllPairs (λ t u. t.lit.variable ≢ u.lit.variable) c.terms
  pub small_sum : coef_sum c.terms ≤ 2 ^ 60
  pub small_degree : c.degree ≤ 2 ^ 54

pub record IsKept (rows : List Row) (slacks : List ℤ) (lists : List (List Occurrence)) (values : List (Option Bool)) : Type 0 where
  pub few : length rows ≤ 2000000000
  pub few_values : length values < 2 ^ 32
  pub keepable : All (λ row. IsKeepable (length values) (row_seen row)) rows
  pub greatest : All (λ row. row.greatest ≡ greatest_coef row.terms) rows
  pub all_slacks : length slacks ≡ length rows
  pub right_slacks : (k : ℕ) (d : Row) → k < length rows → slice_index_or slacks k (pos 0) ≡ slack_of values (row_seen (slice_index_or rows k d))
  pub all_lists : length lists ≡ 2 * length values
  pub right_lists : (lit : Lit) → 0 < lit.variable → lit.variable ≤ length values → slice_index_or lists (place_of lit) [] ≡ occurrences_from 1 lit (map row_seen rows)
