-- How hints are taken.
use Rattle.std.specs.Prelude.{◌≡◌, ◌<◌, ◌≤◌, MatchBool, ℕ, ◌+◌, ◌&&◌, ◌||◌, nat_lt, Bool, false, List, [], ◌∷◌, Option, None, fold, replicate, if◌then◌else◌}
use Rattle.pb_core.specs.AtLeast.{AtLeast}
use Rattle.pb_core.specs.Literal.{complement}
use Rattle.pb_core.specs.Slack.{reachable}
use Rattle.pb_core.specs.Values.{make_true, is_open}
use Rattle.pb_core.specs.declared.literal.Lit.{Lit}
use Rattle.pb_core.specs.declared.literal.Term.{Term}

-- all literals of the clause false, and the other variables open
abbrev pub all_false : ℕ → List Lit → List (Option Bool)
all_false variables lits = fold (λ values lit. make_true values (complement lit)) (replicate variables None) lits

-- the term's literal is open, and its coefficient is above the slack
abbrev pub is_forced : List (Option Bool) → AtLeast → Term → Bool
is_forced values c t = is_open values t.lit && nat_lt (reachable values c.terms) (c.degree + t.coef)

-- every literal that the constraint forces is made true
abbrev pub with_forced : List (Option Bool) → AtLeast → List (Option Bool)
with_forced values c = fold (λ later t. if is_forced values c t then make_true later t.lit else later) values c.terms

-- Each is taken in order: where it is violated, there is a conflict; else what it forces is made true.
abbrev pub conflicts : List (Option Bool) → List AtLeast → Bool
conflicts values [] = false
conflicts values (c ∷ constraints) = nat_lt (reachable values c.terms) c.degree || conflicts (with_forced values c) constraints

-- one hint was taken: it is violated, or what it forces is true
abbrev pub Took : List (Option Bool) → List (Option Bool) → AtLeast → Bool → Type 0
Took before after c violated =
    MatchBool violated (reachable before c.terms < c.degree) ((c.degree ≤ reachable before c.terms) × (after ≡ with_forced before c))
