-- The constraints of the problem to select members can be named.
use Rattle.std.proofs.Common.{◌≡◌, ◌≢◌, ℕ, ◌-◌, ◌<◌, ◌≤◌, inl, inr, Bool, true, false, cond, eqb, leb, List, [], ◌∷◌, ◌++◌, length, get_or, map, pos, ◌+ℤ◌, All, AllPairs, refl, sym, ◌∙◌, ap, subst, arith}
use Rattle.std.specs.List.{flat_map, enumerate_from}
use Rattle.std.proofs.lemmas.List.{get_or-map, length-map}
use Rattle.std.proofs.lemmas.List.Elements.{All-nil, All-cons, All-head, All-tail, All-append, All-map}
use Rattle.std.proofs.lemmas.List.FromFn.{length-enumerate_from, get_or-enumerate_from}
use Rattle.std.proofs.lemmas.Option.{slice_get_within, get_or_from_slice_get}
use Rattle.ldap_filter.specs.EnvPairs.{EnvPair}
use Rattle.pb_core.specs.AtLeast.{AtLeast, at_least}
use Rattle.pb_core.specs.Normalised.{IsNormalised, signed_sum}
use Rattle.pb_core.specs.Satisfied.{true_sum}
use Rattle.pb_core.specs.declared.constraint.Constraint.{Constraint}
use Rattle.pb_core.specs.declared.constraint.Origin.{Origin}
use Rattle.pb_core.specs.declared.constraint.Origin.TheVariants as origin
use Rattle.pb_core.specs.declared.constraint.Problem.{Problem}
use Rattle.pb_core.specs.declared.literal.Term.{Term}
use Rattle.unit_model.specs.Applies.{filter_true}
use Rattle.unit_model.specs.declared.name.UnitName.{UnitName}
use Rattle.unit_model.specs.declared.required.Required.{Required}
use Rattle.unit_model.specs.declared.unit.Unit.{Unit as Package}
use Rattle.pb_rows.specs.Deciding.{same_name, matches, is_single, is_other}
use Rattle.pb_rows.specs.Members.{numbered, variables}
use Rattle.pb_rows.specs.Normalising.{IsNormalOf, AreNormalised}
use Rattle.pb_rows.specs.Rows.{Row, label, term, positives, negatives, root_row_of, root_row, need_rows, most_rows, required_rows, unit_rows, beside, apart_rows, id_rows, ids, root_rows, requirement_rows, singleton_rows, rows}
use Rattle.pb_rows.proofs.DecidingLaws.{Decides-same_name}
use Rattle.pb_rows.proofs.UniqueForms.{one_form}
use Rattle.pb_rows.proofs.VariableLaws.{IsVariableOf, each_variable, variables_rise}
use Rattle.pb_encode.specs.IsProblem.{IsProblem}
use Rattle.deriv_check.specs.EvidenceForm.{IsNamed, label_at}
use Rattle.director_plan.specs.EvidenceLines.{IsLabelled}

-- ---- from rows to constraints

-- What each normal form of a row of some kind has, all constraints of such rows have.
from_rows : (Of : Row → Type 0) (Has : Constraint → Type 0) → ((row : Row) (c : Constraint) → Of row → IsNormalOf row c → Has c) → (given : List Row) (constraints : List Constraint) → All Of given → AreNormalised given constraints → All Has constraints
from_rows Of Has to [] constraints all is = rw is (All-nil Has)
from_rows Of Has to (row ∷ given) constraints all is = elim is [
  | inl left ↦ from_rows Of Has to given constraints (All-tail Of row given all) left.1
  | inr kept ↦
      rw kept.2
      (All-cons Has kept.0 kept.1 (to row kept.0 (All-head Of row given all) kept.3) (from_rows Of Has to given kept.1 (All-tail Of row given all) kept.4))
]

pieces : {X Y : Type 0} (P : Y → Type 0) (f : X → List Y) (Q : X → Type 0) → ((x : X) → Q x → All P (f x)) → (xs : List X) → All Q xs → All P (flat_map f xs)
pieces P f Q each [] all = All-nil P
pieces P f Q each (x ∷ xs) all = All-append P (f x) (flat_map f xs) (each x (All-head Q x xs all)) (pieces P f Q each xs (All-tail Q x xs all))

-- ---- the rows by what they are for

-- rows of requirements and of ids, each with a property of its origin
module _ (Has : Origin → Type 0) where
  abbrev OfOrigin : Row → Type 0
  OfOrigin row = Has row.origin

  need_has : (v row min : ℕ) (matching : List ℕ) → Has (origin.Need v row) → All OfOrigin (need_rows v row min matching)
  need_has v row min matching one = by (eqb min 0)
    where
      by : (b : Bool) → All OfOrigin (cond b [] (record { terms = term min false v ∷ positives matching; degree = pos min; origin = origin.Need v row } ∷ []))
      by true = All-nil OfOrigin
      by false = All-cons OfOrigin (record { terms = term min false v ∷ positives matching; degree = pos min; origin = origin.Need v row }) [] one (All-nil OfOrigin)

  most_has : (v row max : ℕ) (matching : List ℕ) → Has (origin.Most v row) → All OfOrigin (most_rows v row max matching)
  most_has v row max matching one = by (leb (length matching) max)
    where
      by : (b : Bool) → All OfOrigin (cond b [] (record { terms = term (length matching - max) false v ∷ negatives matching; degree = pos (length matching - max); origin = origin.Most v row } ∷ []))
      by true = All-nil OfOrigin
      by false = All-cons OfOrigin (record { terms = term (length matching - max) false v ∷ negatives matching; degree = pos (length matching - max); origin = origin.Most v row }) [] one (All-nil OfOrigin)

  required_has : (members : List Package) (env : List EnvPair) (v : ℕ) (m : ℕ × Required) → Has (origin.Need v m.0) → Has (origin.Most v m.0) → All OfOrigin (required_rows members env v m)
  required_has members env v m need most = by (filter_true env m.1.filter)
    where
      by : (b : Bool) → All OfOrigin (cond b (need_rows v m.0 m.1.min (variables (matches m.1) members) ++ most_rows v m.0 m.1.max (variables (matches m.1) members)) [])
      by true =
          All-append OfOrigin (need_rows v m.0 m.1.min (variables (matches m.1) members)) (most_rows v m.0 m.1.max (variables (matches m.1) members))
          (need_has v m.0 m.1.min (variables (matches m.1) members) need) (most_has v m.0 m.1.max (variables (matches m.1) members) most)
      by false = All-nil OfOrigin

  apart_has : (id singles others : List ℕ) → Has (origin.One id) → All OfOrigin (apart_rows id singles others)
  apart_has id singles [] one = by (leb (length singles) 1)
    where
      by : (b : Bool) → All OfOrigin (cond b [] (record { terms = negatives singles; degree = pos (length singles - 1); origin = origin.One id } ∷ []))
      by true = All-nil OfOrigin
      by false = All-cons OfOrigin (record { terms = negatives singles; degree = pos (length singles - 1); origin = origin.One id }) [] one (All-nil OfOrigin)
  apart_has id singles (first ∷ others) one = by (eqb (length singles) 0)
    where
      by : (b : Bool) → All OfOrigin (cond b [] (map (beside id singles) (first ∷ others)))
      by true = All-nil OfOrigin
      by false = All-map OfOrigin (beside id singles) (first ∷ others) (λ k d h. one)

  units_have : (members : List Package) (env : List EnvPair) → ((v row : ℕ) → (0 < v) × (v ≤ length members) → Has (origin.Need v row) × Has (origin.Most v row)) → All OfOrigin (requirement_rows members env)
  units_have members env each =
      pieces OfOrigin (unit_rows members env) (λ m. (0 < m.0) × (m.0 ≤ length members))
      (λ m one. pieces OfOrigin (required_rows members env m.0) (λ r. (0 < m.0) × (m.0 ≤ length members)) (λ r among. required_has members env m.0 r (each m.0 r.0 among).0 (each m.0 r.0 among).1) (enumerate_from 1 m.1.required) (λ k d h. one))
      (numbered members)
      (λ k d h. let within : k < length members = rw (length-enumerate_from 1 members) at h in rw (get_or-enumerate_from 1 members k d within) (omega arith, omega arith))

  ids_have : (members : List Package) → ((id : List ℕ) → Has (origin.One id)) → All OfOrigin (singleton_rows members)
  ids_have members each =
      pieces OfOrigin (id_rows members) (λ id. ℕ) (λ id any. apart_has id (variables (is_single id) members) (variables (is_other id) members) (each id)) (ids members) (λ k d h. 0)

-- ---- the variables that origins name

pub labelled : (members : List Package) (roots : List UnitName) (env : List EnvPair) (p : Problem) → IsProblem members roots env p → All (λ c. IsLabelled (length p.labels) c.origin) p.constraints
labelled members roots env p is =
    let Has : Origin → Type 0 = IsLabelled (length p.labels) in
    let size : length p.labels ≡ length members = ap length is.labels ∙ length-map members (λ (u : Package). label u.name) in
    from_rows (λ row. Has row.origin) (λ c. Has c.origin) (λ row c of n. subst Has (sym n.origin) of) (rows members roots env) p.constraints
    (All-append (λ (row : Row). Has row.origin) (root_rows members roots ++ requirement_rows members env) (singleton_rows members)
    (All-append (λ (row : Row). Has row.origin) (root_rows members roots) (requirement_rows members env)
    (All-map (λ (row : Row). Has row.origin) (root_row members) roots (λ k d h. tt))
    (units_have Has members env (λ v row among. ((among.0, omega (arith, among.1, size)), (among.0, omega (arith, among.1, size))))))
    (ids_have Has members (λ id. tt)))
    is.constraints

-- ---- the constraints of roots

abbrev positive : ℕ → Term
positive v = record { coef = 1; lit = record { variable = v; positive = true } }

-- where no member has the name
no_term : (c : AtLeast) → IsNormalised [] (pos 1) c → c.terms ≡ []
no_term c n = ap (λ (f : AtLeast). f.terms) (one_form [] (pos 1) c (record { terms = []; degree = 1 }) n form)
  where
    form : IsNormalised [] (pos 1) (record { terms = []; degree = 1 })
    form = record {
      joined = [];
      rising = λ k h. absurd (omega arith);
      above_none = All-nil (λ (t : Term). 0 < t.coef);
      same_margin = λ full. refl;
      clips = refl;
    }

-- where one has it
one_term : (v : ℕ) (c : AtLeast) → IsNormalised (positives (v ∷ [])) (pos 1) c → c.terms ≡ positive v ∷ []
one_term v c n = ap (λ (f : AtLeast). f.terms) (one_form (positives (v ∷ [])) (pos 1) c (record { terms = positive v ∷ []; degree = 1 }) n form)
  where
    margin : (full : ℕ → Bool) (b : Bool) → full v ≡ b → pos (true_sum full (positive v ∷ [])) +ℤ pos 1 ≡ pos 1 +ℤ signed_sum full (positives (v ∷ []))
    margin full true e = rw e refl
    margin full false e = rw e refl

    form : IsNormalised (positives (v ∷ [])) (pos 1) (record { terms = positive v ∷ []; degree = 1 })
    form = record {
      joined = positive v ∷ [];
      rising = λ k h. absurd (omega arith);
      above_none = All-cons (λ (t : Term). 0 < t.coef) (positive v) [] (omega arith) (All-nil (λ (t : Term). 0 < t.coef));
      same_margin = λ full. margin full (full v) refl;
      clips = refl;
    }

module _ (members : List Package) (root : UnitName) where
  abbrev is_root : Package → Bool
  is_root u = same_name u.name root

  -- the label of a member with the root's name is the root's
  root_label : (labels : List (List ℕ)) → labels ≡ map (λ u. label u.name) members → (v : ℕ) → IsVariableOf is_root members v → label root ≡ label_at labels v
  root_label labels same v is =
      let within : is.place < length members = slice_get_within members is.place is.unit is.here in
      let unit : get_or members is.place is.unit ≡ is.unit = get_or_from_slice_get members is.place is.unit is.unit is.here in
      let name : is.unit.name ≡ root = (Decides-same_name is.unit.name root).0 is.passes in
      let place : v - 1 ≡ is.place = omega (arith, is.is) in
      let there : get_or (map (λ u. label u.name) members) is.place [] ≡ label is.unit.name =
      get_or-map (λ (u : Package). label u.name) members is.place is.unit [] within ∙ ap (λ (u : Package). label u.name) unit in
      sym (ap (λ (l : List (List ℕ)). label_at l v) same ∙ ap (λ k. get_or (map (λ u. label u.name) members) k []) place ∙ there ∙ ap label name)

  -- two members have two names
  apart : AllPairs (λ u v. u.name ≢ v.name) members → (v w : ℕ) → v < w → IsVariableOf is_root members v → IsVariableOf is_root members w → ⊥
  apart distinct v w lt a b =
      let within : b.place < length members = slice_get_within members b.place b.unit b.here in
      let first : a.place < b.place = omega (arith, a.is, b.is, lt) in
      let one : get_or members a.place a.unit ≡ a.unit = get_or_from_slice_get members a.place a.unit a.unit a.here in
      let other : get_or members b.place a.unit ≡ b.unit = get_or_from_slice_get members b.place b.unit a.unit b.here in
      let names : a.unit.name ≡ b.unit.name = (Decides-same_name a.unit.name root).0 a.passes ∙ sym ((Decides-same_name b.unit.name root).0 b.passes) in
      distinct a.place b.place a.unit first within (ap (λ (u : Package). u.name) one ∙ names ∙ sym (ap (λ (u : Package). u.name) other))

  root_named : (labels : List (List ℕ)) → labels ≡ map (λ u. label u.name) members → AllPairs (λ u v. u.name ≢ v.name) members
      → (named : List ℕ) → All (IsVariableOf is_root members) named → AllPairs (λ v w. v < w) named
      → (c : Constraint) → IsNormalOf (root_row_of root named) c → IsNamed labels c.terms c.origin
  root_named labels same distinct [] each rise c n =
      let terms : c.terms ≡ [] = no_term (at_least c) n.normalised in
      rw (n.origin, terms) tt
  root_named labels same distinct (v ∷ []) each rise c n =
      let terms : c.terms ≡ positive v ∷ [] = one_term v (at_least c) n.normalised in
      rw (n.origin, terms) (root_label labels same v (All-head (IsVariableOf is_root members) v [] each))
  root_named labels same distinct (v ∷ w ∷ more) each rise c n =
      let tail = All-tail (IsVariableOf is_root members) v (w ∷ more) each in
      absurd (apart distinct v w (rise 0 1 v (omega arith) (omega arith)) (All-head (IsVariableOf is_root members) v (w ∷ more) each) (All-head (IsVariableOf is_root members) w more tail))

-- a property of an origin that no root has
abbrev IsOfNoRoot : Origin → Type 0
IsOfNoRoot o = (labels : List (List ℕ)) (terms : List Term) → IsNamed labels terms o

-- Each normal form of the row can be named over the labels.
abbrev HasNames : List (List ℕ) → Row → Type 0
HasNames labels row = (c : Constraint) → IsNormalOf row c → IsNamed labels c.terms c.origin

others : (labels : List (List ℕ)) (given : List Row) → All (λ row. IsOfNoRoot row.origin) given → All (HasNames labels) given
others labels given all k d h = λ c n. subst (λ (o : Origin). IsNamed labels c.terms o) (sym n.origin) (all k d h labels c.terms)

pub named : (members : List Package) (roots : List UnitName) (env : List EnvPair) (p : Problem) → AllPairs (λ u v. u.name ≢ v.name) members → IsProblem members roots env p → All (λ c. IsNamed p.labels c.terms c.origin) p.constraints
named members roots env p distinct is =
    from_rows (HasNames p.labels) (λ c. IsNamed p.labels c.terms c.origin) (λ row c of n. of c n) (rows members roots env) p.constraints
    (All-append (HasNames p.labels) (root_rows members roots ++ requirement_rows members env) (singleton_rows members)
    (All-append (HasNames p.labels) (root_rows members roots) (requirement_rows members env)
    (All-map (HasNames p.labels) (root_row members) roots
    (λ k d h. λ c n.
    let root = get_or roots k d in
    root_named members root p.labels is.labels distinct (variables (is_root members root) members) (each_variable (is_root members root) members) (variables_rise (is_root members root) members) c n))
    (others p.labels (requirement_rows members env) (units_have IsOfNoRoot members env (λ v row among. ((λ labels terms. tt), (λ labels terms. tt))))))
    (others p.labels (singleton_rows members) (ids_have IsOfNoRoot members (λ id labels terms. tt))))
    is.constraints
