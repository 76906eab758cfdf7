-- The rows of constraints that say which members may be selected together.
use Rattle.std.specs.Prelude.{ℕ, ◌-◌, ◌==◌, nat_le, ℤ, pos, Bool, true, false, List, [], ◌∷◌, ◌++◌, map, length, if◌then◌else◌}
use Rattle.std.specs.List.{enumerate_from, flat_map, dedup}
use Rattle.std.specs.Str.{bytes_eq}
use Rattle.ldap_filter.specs.EnvPairs.{EnvPair}
use Rattle.osgi_version.specs.VersionText.{version_text}
use Rattle.pb_core.specs.declared.constraint.Origin.{Origin}
use Rattle.pb_core.specs.declared.constraint.Origin.TheVariants as origin
use Rattle.pb_core.specs.declared.literal.SignedTerm.{SignedTerm}
use Rattle.unit_model.specs.Applies.{filter_true}
use Rattle.unit_model.specs.declared.name.UnitName.{UnitName}
use Rattle.unit_model.specs.declared.required.Required.{Required}
use Rattle.unit_model.specs.declared.unit.Unit.{Unit as Package}
use Rattle.pb_rows.specs.Deciding.{same_name, matches, is_single, is_other}
use Rattle.pb_rows.specs.Members.{numbered, variables}

-- The coefficients of the true literals are to sum to at least the degree.
pub record Row : Type 0 where
  pub terms : List SignedTerm
  pub degree : ℤ
  pub origin : Origin

-- this many times the literal that the variable has this truth
abbrev pub term : ℕ → Bool → ℕ → SignedTerm
term coef truth v = record { coef = pos coef; lit = record { variable = v; positive = truth } }

-- the number of the variables that are true
abbrev pub positives : List ℕ → List SignedTerm
positives vs = map (term 1 true) vs

-- the number of the variables that are false
abbrev pub negatives : List ℕ → List SignedTerm
negatives vs = map (term 1 false) vs

-- `id/version`
abbrev pub label : UnitName → List ℕ
label name = name.id ++ 47 ∷ version_text name.version

-- A root is selected. Where no member has its name, there is no term.
abbrev pub root_row_of : UnitName → List ℕ → Row
root_row_of root named = record { terms = positives named; degree = pos 1; origin = origin.Root (label root) }

abbrev pub root_row : List Package → UnitName → Row
root_row members root = root_row_of root (variables (λ u. same_name u.name root) members)

-- Where the variable is true, at least `min` of those that match are.
abbrev pub need_rows : ℕ → ℕ → ℕ → List ℕ → List Row
need_rows v row min matching =
    if min == 0 then []
    else (record { terms = term min false v ∷ positives matching; degree = pos min; origin = origin.Need v row } ∷ [])

-- Where the variable is true, at most `max` of those that match are.
abbrev pub most_rows : ℕ → ℕ → ℕ → List ℕ → List Row
most_rows v row max matching =
    let excess = length matching - max in
    if nat_le (length matching) max then []
    else (record { terms = term excess false v ∷ negatives matching; degree = pos excess; origin = origin.Most v row } ∷ [])

-- A requirement whose filter is false asks for nothing.
abbrev pub required_rows : List Package → List EnvPair → ℕ → ℕ × Required → List Row
required_rows members env v required =
    let matching = variables (matches required.1) members in
    if filter_true env required.1.filter then need_rows v required.0 required.1.min matching ++ most_rows v required.0 required.1.max matching
    else []

-- the rows of a member's requirements, which are numbered from 1
abbrev pub unit_rows : List Package → List EnvPair → ℕ × Package → List Row
unit_rows members env member = flat_map (required_rows members env member.0) (enumerate_from 1 member.1.required)

-- At most one of the singletons and of one other unit of their id is true.
abbrev pub beside : List ℕ → List ℕ → ℕ → Row
beside id singles other = record { terms = negatives singles ++ term 1 false other ∷ []; degree = pos (length singles); origin = origin.One id }

-- Of the singletons of an id at most one is true, and none beside another unit of the id.
abbrev pub apart_rows : List ℕ → List ℕ → List ℕ → List Row
apart_rows id singles [] =
    if nat_le (length singles) 1 then []
    else (record { terms = negatives singles; degree = pos (length singles - 1); origin = origin.One id } ∷ [])
apart_rows id singles (other ∷ others) =
    if length singles == 0 then []
    else map (beside id singles) (other ∷ others)

abbrev pub id_rows : List Package → List ℕ → List Row
id_rows members id = apart_rows id (variables (is_single id) members) (variables (is_other id) members)

-- the ids in the members' order, each once where members of one id stand together
abbrev pub ids : List Package → List (List ℕ)
ids members = dedup bytes_eq (map (λ u. u.name.id) members)

abbrev pub root_rows : List Package → List UnitName → List Row
root_rows members roots = map (root_row members) roots

abbrev pub requirement_rows : List Package → List EnvPair → List Row
requirement_rows members env = flat_map (unit_rows members env) (numbered members)

abbrev pub singleton_rows : List Package → List Row
singleton_rows members = flat_map (id_rows members) (ids members)

-- the rows of the problem to select members for the roots
abbrev pub rows : List Package → List UnitName → List EnvPair → List Row
rows members roots env = root_rows members roots ++ requirement_rows members env ++ singleton_rows members
