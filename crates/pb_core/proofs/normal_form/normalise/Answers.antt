use Rattle.std.proofs.Common.{◌≡◌, ◌∙◌, refl, arith}
use Rattle.std.specs.Int.RustNames.{unsigned_abs}
use Rattle.std.proofs.lemmas.Int.{ints, to_z-of_z}
use mir.Syntax.{w64}
use mir.Val.{to_z, of_z}
use Rattle.pb_core.specs.AtLeast.{AtLeast}
use Rattle.pb_core.specs.Joined.{IsPrepared}
use Rattle.pb_core.specs.Normalised.{IsNormalised, clipped}
use Rattle.pb_core.proofs.NormalLaws.{prepared_normalised, prepared_normal, prepared_among, normalised_same, normalised_some}
use Rattle.pb_core.proofs.normal_form.normalise.Goals as goal
use Rattle.pb_core.proofs.normal_form.normalise.Goals.{After-drop-positive-2}

-- the constraint without its origin
abbrev found : After-drop-positive-2 → AtLeast
found c = record { terms = c.from_vec-terms.result; degree = unsigned_abs (to_z w64 (of_z w64 c.in_ok-positive.left)) }

pub returns-clause-normal : goal.returns-clause-normal
returns-clause-normal c =
    prepared_normal _ _ c.in_ok-positive.positive.items c.in_ok-positive.left _ c.in_ok-positive.ensures (omega (arith, ints)) (c.from_vec-terms.ensures ∙ (c.in_ok-clip.ensures ∙ rw c.deref.ensures.value refl)) (omega (arith, ints))

is_prepared : (c : After-drop-positive-2) → IsPrepared c.args.terms.now c.args.degree c.in_ok-positive.positive.items c.in_ok-positive.left
is_prepared c =
    let fits = c.ranges.degree in
    rw c.items.ensures at (simp to_z-of_z at c.in_ok-positive.ensures)

clips : (c : After-drop-positive-2) → (found c).terms ≡ clipped (found c).degree c.in_ok-positive.positive.items
clips c = c.from_vec-terms.ensures ∙ (c.in_ok-clip.ensures ∙ rw c.deref.ensures.value refl)

is_normalised : (c : After-drop-positive-2) → IsNormalised c.args.terms.now c.args.degree (found c)
is_normalised c = prepared_normalised _ _ c.in_ok-positive.positive.items c.in_ok-positive.left (found c) (is_prepared c) (omega (arith, ints)) (clips c)

pub returns-clause-among : goal.returns-clause-among
returns-clause-among c = prepared_among _ _ c.in_ok-positive.positive.items c.in_ok-positive.left (found c) (is_prepared c) (clips c)

pub returns-clause-same : goal.returns-clause-same
returns-clause-same c = normalised_same _ _ (found c) (is_normalised c)

pub returns-clause-some : goal.returns-clause-some
returns-clause-some c =
    normalised_some _ _ (found c) (is_normalised c)
    (prepared_normal _ _ c.in_ok-positive.positive.items c.in_ok-positive.left (found c) c.in_ok-positive.ensures (omega (arith, ints)) (clips c) (omega (arith, ints)))
