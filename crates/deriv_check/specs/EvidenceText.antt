-- The text of an evidence: one for each. A line is words with one blank between each two, and LF behind them.
use Rattle.std.specs.Prelude.{ℕ, List, [], ◌∷◌, ◌++◌, length, map, codes, if◌then◌else◌}
use Rattle.std.specs.List.{flat_map}
use Rattle.std.specs.Fmt.{decimal}
use Rattle.osgi_version.specs.Field.{field}
use Rattle.pb_core.specs.declared.constraint.Constraint.{Constraint}
use Rattle.pb_core.specs.declared.constraint.Origin.{Origin}
use Rattle.pb_core.specs.declared.constraint.Origin.TheVariants as origin
use Rattle.pb_core.specs.declared.constraint.Problem.{Problem}
use Rattle.pb_core.specs.declared.literal.Lit.{Lit}
use Rattle.pb_core.specs.declared.literal.Term.{Term}
use Rattle.deriv_check.specs.declared.derivation.Derivation.{Derivation}
use Rattle.deriv_check.specs.declared.derivation.Evidence.{Evidence}
use Rattle.deriv_check.specs.declared.derivation.Line.{Line}

-- words with one blank between each two
abbrev pub spaced : List (List ℕ) → List ℕ
spaced [] = []
spaced (word ∷ words) = word ++ flat_map (λ w. 32 ∷ w) words

-- the variable's number, with `-` before it where the literal is negative
abbrev pub lit_word : Lit → List ℕ
lit_word lit = if lit.positive then decimal lit.variable else 45 ∷ decimal lit.variable

-- `COEFFICIENT:LITERAL`
abbrev pub term_word : Term → List ℕ
term_word t = decimal t.coef ++ 58 ∷ lit_word t.lit

-- two numbers with `:` between them
abbrev pub pair_word : ℕ → ℕ → List ℕ
pair_word n m = decimal n ++ 58 ∷ decimal m

-- `root`, and where there is no term `root:LABEL`
abbrev pub root_word : List ℕ → List Term → List ℕ
root_word label [] = codes "root:" ++ field label
root_word label (t ∷ terms) = codes "root"

-- what the constraint stands for
abbrev pub origin_word : List Term → Origin → List ℕ
origin_word terms (origin.Root label) = root_word label terms
origin_word terms (origin.Need variable row) = codes "need:" ++ pair_word variable row
origin_word terms (origin.Most variable row) = codes "most:" ++ pair_word variable row
origin_word terms (origin.One id) = codes "one:" ++ field id

-- `v LABEL`
abbrev pub label_words : List ℕ → List (List ℕ)
label_words label = codes "v" ∷ field label ∷ []

-- `c ORIGIN DEGREE TERMS`
abbrev pub constraint_words : Constraint → List (List ℕ)
constraint_words c = codes "c" ∷ origin_word c.terms c.origin ∷ decimal c.degree ∷ map term_word c.terms

-- `l LITERALS ; HINTS`
abbrev pub derived_words : Line → List (List ℕ)
derived_words line = codes "l" ∷ (map lit_word line.clause ++ codes ";" ∷ map decimal line.hints)

-- `problem LABELS CONSTRAINTS`, each a number
abbrev pub problem_words : ℕ × ℕ → List (List ℕ)
problem_words counts = codes "problem" ∷ decimal counts.0 ∷ decimal counts.1 ∷ []

-- `derivation LINES`, a number
abbrev pub derivation_words : ℕ → List (List ℕ)
derivation_words count = codes "derivation" ∷ decimal count ∷ []

unfoldable pub label_line : List ℕ → List ℕ
label_line label = spaced (label_words label)

unfoldable pub constraint_line : Constraint → List ℕ
constraint_line c = spaced (constraint_words c)

unfoldable pub derived_line : Line → List ℕ
derived_line line = spaced (derived_words line)

unfoldable pub problem_line : ℕ × ℕ → List ℕ
problem_line counts = spaced (problem_words counts)

unfoldable pub derivation_line : ℕ → List ℕ
derivation_line count = spaced (derivation_words count)

abbrev pub problem_lines : Problem → List (List ℕ)
problem_lines problem =
    problem_line (length problem.labels, length problem.constraints) ∷ (map label_line problem.labels ++ map constraint_line problem.constraints)

abbrev pub derivation_lines : Derivation → List (List ℕ)
derivation_lines derivation = derivation_line (length derivation.lines) ∷ map derived_line derivation.lines

abbrev pub evidence_lines : Evidence → List (List ℕ)
evidence_lines e = problem_lines e.problem ++ derivation_lines e.derivation

-- lines, each with LF behind it
abbrev pub ended : List (List ℕ) → List ℕ
ended lines = flat_map (λ line. line ++ 10 ∷ []) lines

abbrev pub evidence_text : Evidence → List ℕ
evidence_text e = ended (evidence_lines e)
