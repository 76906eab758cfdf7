use Rattle.std.specs.Prelude.{ℕ, ◌+◌, ℤ, pos, ◌+ℤ◌, Bool, ◌≡◌, ◌≤◌, ◌<◌, ◌^◌, ◌≤ℤ◌, List, All, map, fold, sum_by, if◌then◌else◌}
use Rattle.std.specs.Int.RustNames.{unsigned_abs}
use Rattle.pb_core.specs.declared.normal_form.Joined.{Joined}
use Rattle.pb_core.specs.Literal.{holds}
use Rattle.pb_core.specs.Normalised.{signed_share, signed_sum, AreSignedAmong}
use Rattle.pb_core.specs.Normal.{AreAmong}
use Rattle.pb_core.specs.Satisfied.{true_sum}
use Rattle.pb_core.specs.Slack.{coef_sum}
use Rattle.std.specs.List.Sorted.{IsStrictlyIncreasing}
use Rattle.pb_core.specs.declared.literal.Term.{Term}
use Rattle.pb_core.specs.declared.literal.SignedTerm.{SignedTerm}

abbrev pub joined_nothing : ℕ → Joined
joined_nothing variable = record { variable = variable; when_true = pos 0; when_false = pos 0 }

abbrev pub joined_share : (ℕ → Bool) → Joined → ℤ
joined_share full j = if full j.variable then j.when_true else j.when_false

abbrev pub joined_sum : (ℕ → Bool) → List Joined → ℤ
joined_sum full joined = fold ◌+ℤ◌ (pos 0) (map (joined_share full) joined)

abbrev pub signed_share_of : (ℕ → Bool) → SignedTerm → ℤ
signed_share_of = signed_share

abbrev pub true_share : (ℕ → Bool) → Term → ℕ
true_share full t = if holds full t.lit then t.coef else 0

abbrev pub size : Joined → ℕ
size j = unsigned_abs j.when_true + unsigned_abs j.when_false

abbrev pub weight : List Joined → ℕ
weight joined = sum_by size joined

abbrev pub signed_size : SignedTerm → ℕ
signed_size t = unsigned_abs t.coef

-- each variable is at most a number, and 0 only where nothing is added
abbrev pub AreJoinedAmong : ℕ → List Joined → Type 0
AreJoinedAmong variables joined = All (λ j. (j.variable ≤ variables) × (j.variable ≡ 0 → size j ≡ 0)) joined

-- terms with coefficients above 0 exceed what is left of the degree by as much as the signed terms do
pub record IsPrepared (terms : List SignedTerm) (degree : ℤ) (positive : List Term) (left : ℤ) : Type 0 where
  pub margin : (full : ℕ → Bool) → pos (true_sum full positive) +ℤ degree ≡ left +ℤ signed_sum full terms
  pub rising : IsStrictlyIncreasing (map (λ t. t.lit.variable) positive)
  pub above_none : All (λ t. 0 < t.coef) positive
  pub small : coef_sum positive ≤ 2 ^ 54
  pub high : left ≤ℤ pos (2 ^ 54)
  pub among : (variables : ℕ) → AreSignedAmong variables terms → AreAmong variables positive
