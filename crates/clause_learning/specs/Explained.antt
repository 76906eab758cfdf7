-- What the marks and the hints of an analysis show.
use Rattle.std.specs.Prelude.{◌≡◌, ℕ, Bool, true, IsTrue, List, Option, length, reverse}
use Rattle.pb_core.specs.Values.{value_of}
use Rattle.deriv_check.specs.HintRule.{conflicts}
use Rattle.deriv_check.specs.LineRule.{HasHints, hinted}
use Rattle.pb_trail.specs.declared.trail.Trail.{Trail}
use Rattle.clause_learning.specs.Marks.{is_marked, HasMarks}
use Rattle.clause_learning.specs.declared.cut.Cut.{Cut}

-- marked variables have the values of the trail
abbrev pub Agrees : Trail → List Bool → List (Option Bool) → Type 0
Agrees trail seen values = (v : ℕ) → IsTrue (is_marked seen v) → value_of values v ≡ value_of trail.kept.values v

-- Whatever the values of the other variables, the hints, taken from the last to the first, come to a conflict.
pub record IsExplained (trail : Trail) (seen : List Bool) (hints : List ℕ) : Type 0 where
  pub each : (values : List (Option Bool)) → length values ≡ length trail.kept.values → Agrees trail seen values → conflicts values (hinted trail.kept.constraints (reverse hints)) ≡ true

pub record IsCut (trail : Trail) (cut : Cut) : Type 0 where
  pub marks : HasMarks trail cut
  pub has_hints : HasHints trail.kept.constraints cut.hints.items
  pub explained : IsExplained trail cut.seen.items cut.hints.items
