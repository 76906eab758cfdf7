-- A learned clause where levels were taken back.
use Rattle.std.proofs.Common.{◌≡◌, ℕ, ◌-◌, ◌<◌, ◌≤◌, Bool, List, [], ◌∷◌, ◌++◌, length, get_or, take, Option, sym, ap, subst, ◌∙◌, arith}
use Rattle.std.proofs.lemmas.List.{take-take, get_or_append_left, length_push}
use Rattle.pb_core.specs.AtLeast.{AtLeast, clause}
use Rattle.pb_core.specs.ConstraintAt.{constraint_at}
use Rattle.pb_core.specs.Propagates.{IsAtRest}
use Rattle.pb_core.specs.declared.literal.Lit.{Lit}
use Rattle.pb_trail.specs.Along.{values_along, values_before}
use Rattle.pb_trail.specs.Rest.{Rests, RestBefore}
use Rattle.pb_trail.specs.declared.trail.Trail.{Trail}
use Rattle.clause_learning.specs.Asserting.{IsAsserting}
use Rattle.pb_solver.specs.Levels.{LevelsHold, RestsAtLevels, IsBack, values_at, last_of}
use Rattle.pb_solver.specs.declared.levels.Levels.{Levels}
use Rattle.pb_solver.proofs.ClauseLaws.{learned_rests}

abbrev none : AtLeast
none = record { terms = []; degree = 0 }

values_back : (before after : Levels) (floor : ℕ) → IsBack before after floor → (s : ℕ) → s < floor → values_at before.trail s ≡ values_at after.trail s
values_back before after floor back s h =
    let low = back.above in
    ap (values_along (length before.trail.kept.values)) (sym (take-take s back.count before.trail.entries.items (omega (arith, low, h))) ∙ ap (take s) (sym back.entries)) ∙ ap (λ (m : ℕ). values_before m after.trail.entries.items s) (sym back.variables)

pub back_rests : (before after : Levels) (start floor low : ℕ) (lits : List Lit) → LevelsHold before → 0 < length before.starts.items → start ≡ last_of before.starts.items → IsBack before after low → low ≤ floor → IsAsserting before.trail start floor lits → RestsAtLevels after.trail after.starts.items (clause lits)
back_rests before after start floor low lits levels some is back down asserting i h =
    let below = back.starts_below i h in
    let within = levels.within (length before.starts.items - 1) (omega arith) in
    subst (λ (vs : List (Option Bool)). Rests vs (clause lits)) (values_back before after low back (get_or after.starts.items i 0) below) (learned_rests before.trail start floor lits levels.good (omega (arith, is, within)) asserting (get_or after.starts.items i 0) (omega (arith, below, down)))

-- all but the new constraint rest
pub rest_but_last : (before after : Trail) (c : AtLeast) → after.kept.constraints ≡ before.kept.constraints ++ c ∷ [] → after.kept.values ≡ before.kept.values → IsAtRest before.kept.constraints before.kept.values → RestBefore after (length after.kept.constraints)
rest_but_last before after c constraints values rest n some below most =
    let size = ap length constraints ∙ length_push before.kept.constraints c in
    let within : n - 1 < length before.kept.constraints = omega (arith, size, some, below) in
    let same : constraint_at before.kept.constraints n ≡ constraint_at after.kept.constraints n = sym (ap (λ (cs : List AtLeast). constraint_at cs n) constraints ∙ get_or_append_left before.kept.constraints (c ∷ []) none (n - 1) within) in
    subst (λ (vs : List (Option Bool)). Rests vs (constraint_at after.kept.constraints n)) (sym values) (subst (λ (x : AtLeast). Rests before.kept.values x) same (rest (n - 1) none within))
