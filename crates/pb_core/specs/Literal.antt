use Rattle.std.specs.Prelude.{ℕ, Bool, not, ◌==◌, ◌&&◌, if◌then◌else◌}
use Rattle.pb_core.specs.declared.literal.Lit.{Lit}

-- true exactly where the literal is false
abbrev pub complement : Lit → Lit
complement lit = record { variable = lit.variable; positive = not lit.positive }

-- the literal is true under a full assignment
abbrev pub holds : (ℕ → Bool) → Lit → Bool
holds full lit = if lit.positive then full lit.variable else not (full lit.variable)

-- both truth values are the same
abbrev pub same_truth : Bool → Bool → Bool
same_truth a b = if a then b else not b

-- both are one literal
abbrev pub same_literal : Lit → Lit → Bool
same_literal a b = a.variable == b.variable && same_truth a.positive b.positive
