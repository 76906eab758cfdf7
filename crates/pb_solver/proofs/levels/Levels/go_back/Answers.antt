use Rattle.std.proofs.Common.{◌<◌, ◌≤◌, ℕ, List, length, get_or, sym, subst, ◌∙◌, arith}
use Rattle.std.proofs.lemmas.List.{get_or_default}
use Rattle.pb_solver.specs.Levels.{AreLevels}
use Rattle.pb_solver.proofs.LevelLaws.{AreLevels-back, back_at_rest, start-le-last, some_goes, take_below}
use Rattle.pb_solver.proofs.levels.Levels.go_back.Goals as goal

pub returns-clause-holds : goal.returns-clause-holds
returns-clause-holds g c =
    let below : (i : ℕ) → i < c.levels_below-kept.result → get_or c.args.self.now.starts.items i 0 < c.args.floor = subst (λ (ss : List ℕ). (i : ℕ) → i < c.levels_below-kept.result → get_or ss i 0 < c.args.floor) c.as_slice.ensures.value c.levels_below-kept.ensures.below in
    let within : c.levels_below-kept.result ≤ length c.args.self.now.starts.items = subst (λ (ss : List ℕ). c.levels_below-kept.result ≤ length ss) c.as_slice.ensures.value c.levels_below-kept.ensures.within in
    let some = some_goes c.args.self.now.starts.items c.levels_below-kept.result c.args.floor within below c.requires.some c.requires.floor in
    let is = c.index-count.ensures ∙ get_or_default c.args.self.now.starts.items c.levels_below-kept.result c.index-count.result.now 0 some in
    let P : List ℕ → Type 0 = λ ss. AreLevels c.take_back.new.self ss in
    subst P (sym c.truncate.ensures.items) (AreLevels-back c.args.self.now.trail c.take_back.new.self c.args.self.now.starts.items c.levels_below-kept.result c.index-count.result.now c.requires.holds c.take_back.ensures.good c.take_back.ensures.constraints c.take_back.ensures.variables c.take_back.ensures.entries some is)

pub returns-clause-back : goal.returns-clause-back
returns-clause-back g c =
    let below : (i : ℕ) → i < c.levels_below-kept.result → get_or c.args.self.now.starts.items i 0 < c.args.floor = subst (λ (ss : List ℕ). (i : ℕ) → i < c.levels_below-kept.result → get_or ss i 0 < c.args.floor) c.as_slice.ensures.value c.levels_below-kept.ensures.below in
    let within : c.levels_below-kept.result ≤ length c.args.self.now.starts.items = subst (λ (ss : List ℕ). c.levels_below-kept.result ≤ length ss) c.as_slice.ensures.value c.levels_below-kept.ensures.within in
    let here : c.levels_below-kept.result < length c.args.self.now.starts.items → c.args.floor ≤ get_or c.args.self.now.starts.items c.levels_below-kept.result 0 = subst (λ (ss : List ℕ). c.levels_below-kept.result < length ss → c.args.floor ≤ get_or ss c.levels_below-kept.result 0) c.as_slice.ensures.value c.levels_below-kept.ensures.here in
    let some = some_goes c.args.self.now.starts.items c.levels_below-kept.result c.args.floor within below c.requires.some c.requires.floor in
    let is = c.index-count.ensures ∙ get_or_default c.args.self.now.starts.items c.levels_below-kept.result c.index-count.result.now 0 some in
    let high = here some in
    let low = start-le-last c.args.self.now.trail c.args.self.now.starts.items c.requires.holds c.levels_below-kept.result some in
    record {
      constraints = c.take_back.ensures.constraints;
      variables = c.take_back.ensures.variables;
      count = c.index-count.result.now;
      above = omega (arith, is, high);
      below = omega (arith, is, low);
      entries = c.take_back.ensures.entries;
      starts_below = subst (λ (ss : List ℕ). (i : ℕ) → i < length ss → get_or ss i 0 < c.args.floor) (sym c.truncate.ensures.items) (take_below c.args.self.now.starts.items c.levels_below-kept.result c.args.floor some below);
      at_rest = back_at_rest c.args.self.now.trail c.take_back.new.self c.args.self.now.starts.items c.levels_below-kept.result c.index-count.result.now c.requires.holds c.take_back.ensures.good c.take_back.ensures.constraints c.take_back.ensures.variables c.take_back.ensures.entries some is;
    }
