-- Constraints that are visited one after the other, and what a choice leaves.
use Rattle.std.proofs.Common.{◌≡◌, ℕ, ◌+◌, ◌-◌, ◌<◌, ◌≤◌, List, [], ◌∷◌, ◌++◌, length, get_or, take, refl, ap, subst, ◌∙◌, ⊎_elim, arith}
use Rattle.std.proofs.lemmas.Bool.{cases_lt}
use Rattle.std.proofs.lemmas.List.{get_or_default, get_or_push, length_push}
use Rattle.pb_core.specs.AtLeast.{AtLeast}
use Rattle.pb_core.specs.ConstraintAt.{constraint_at}
use Rattle.pb_core.specs.Propagates.{IsAtRest}
use Rattle.pb_core.specs.declared.literal.Lit.{Lit}
use Rattle.pb_trail.specs.Growth.{Extends, Grows, IsDecided}
use Rattle.pb_trail.specs.Rest.{Rests, IsUntouched, RestBefore, RestOrTouched}
use Rattle.pb_trail.specs.Trail.{IsTrail}
use Rattle.pb_trail.specs.declared.trail.Entry.{Entry}
use Rattle.pb_trail.specs.declared.trail.Trail.{Trail}
use Rattle.pb_trail.proofs.TrailLaws.{rests_still, entry_kept, Extends-through}
use Rattle.pb_trail.proofs.AlongLaws.{length-along}

-- each constraint before a number rests that no entry from a place on touched
pub record RestUpTo (trail : Trail) (first number : ℕ) : Type 0 where
  pub each : (n : ℕ) → 0 < n → n < number → n ≤ length trail.kept.constraints → IsUntouched trail.entries.items first (constraint_at trail.kept.constraints n) → Rests trail.kept.values (constraint_at trail.kept.constraints n)

pub RestUpTo-begins : (trail : Trail) (first number : ℕ) → RestBefore trail number → RestUpTo trail first number
RestUpTo-begins trail first number rest = record { each = λ n some below most quiet. rest n some below most }

pub RestUpTo-visited : (before after : Trail) (first number : ℕ) → IsTrail before → IsTrail after → Extends before after → first ≤ length before.entries.items → RestUpTo before first number → Rests after.kept.values (constraint_at after.kept.constraints number) → RestUpTo after first (number + 1)
RestUpTo-visited before after first number good longer extends within rest visited = record { each = each }
  where
    each : (n : ℕ) → 0 < n → n < number + 1 → n ≤ length after.kept.constraints → IsUntouched after.entries.items first (constraint_at after.kept.constraints n) → Rests after.kept.values (constraint_at after.kept.constraints n)
    each n some below most quiet = ⊎_elim (λ lt. rests_still before after n first good longer extends within quiet (λ q. rest.each n some lt (omega (arith, most, ap length extends.constraints)) q)) (λ ge. let here : number ≡ n = omega arith in subst (λ (m : ℕ). Rests after.kept.values (constraint_at after.kept.constraints m)) here visited) (cases_lt n number)

pub RestUpTo-ends : (trail : Trail) (first number : ℕ) → length trail.kept.constraints < number → RestUpTo trail first number → RestOrTouched trail first
RestUpTo-ends trail first number all rest n some most quiet = rest.each n some (omega arith) most quiet

-- a choice leaves only what it touched
pub decided_rest : (before after : Trail) → IsTrail before → IsTrail after → Extends before after → IsAtRest before.kept.constraints before.kept.values → RestOrTouched after (length before.entries.items)
decided_rest before after good longer extends rest n some most quiet =
    rests_still before after n (length before.entries.items) good longer extends (omega arith) quiet (λ q. rest (n - 1) (record { terms = []; degree = 0 }) (omega (arith, some, most, ap length extends.constraints)))

pub IsDecided-grown : (before middle after : Trail) (lit : Lit) → Extends before middle → middle.entries.items ≡ before.entries.items ++ record { lit = lit; reason = 0 } ∷ [] → Grows middle after → IsDecided before after lit
IsDecided-grown before middle after lit extends items grows = record {
  extends = Extends-through before middle after extends grows.extends;
  some = omega (arith, size, grows.extends.longer);
  chosen = λ d. entry_kept middle after grows.extends (length before.entries.items) d (omega (arith, size)) ∙ (ap (λ (es : List Entry). get_or es (length before.entries.items) d) items ∙ get_or_push before.entries.items (record { lit = lit; reason = 0 }) d (length before.entries.items) refl);
  reasons = λ k d h within. grows.reasons k d (omega (arith, size, h)) within;
}
  where
    size : length middle.entries.items ≡ length before.entries.items + 1
    size = ap length items ∙ length_push before.entries.items (record { lit = lit; reason = 0 })

-- where nothing is left to be looked at, all rest
pub rest_all : (trail : Trail) (first : ℕ) → length trail.entries.items ≤ first → RestOrTouched trail first → IsAtRest trail.kept.constraints trail.kept.values
rest_all trail first all rest k d h =
    let back : k + 1 - 1 ≡ k = omega arith in
    let none : AtLeast = record { terms = []; degree = 0 } in
    let at : constraint_at trail.kept.constraints (k + 1) ≡ get_or trail.kept.constraints k d = ap (λ (m : ℕ). get_or trail.kept.constraints m (record { terms = []; degree = 0 })) back ∙ get_or_default trail.kept.constraints k (record { terms = []; degree = 0 }) d h in
    subst (λ (c : AtLeast). Rests trail.kept.values c) at (rest (k + 1) (omega arith) (omega arith) (λ j e low within. absurd (omega arith)))

-- an entry's variable is one of the trail's
pub entry_among : (trail : Trail) (place : ℕ) (d : Entry) → IsTrail trail → place < length trail.entries.items → (0 < (get_or trail.entries.items place d).lit.variable) × ((get_or trail.entries.items place d).lit.variable ≤ length trail.kept.values)
entry_among trail place d good h =
    let step = good.are_steps place d h in
    (step.from_one, omega (arith, step.within, length-along (length trail.kept.values) (take place trail.entries.items)))
