-- Rows have the members' variables alone, and so have their normal forms.
use Rattle.std.proofs.Common.{ℕ, ◌-◌, ◌^◌, ◌<◌, ◌≤◌, inl, inr, Bool, true, false, cond, eqb, leb, List, [], ◌∷◌, ◌++◌, length, get_or, map, pos, All, arith}
use Rattle.std.specs.List.{flat_map, enumerate_from}
use Rattle.std.proofs.lemmas.Int.{ints}
use Rattle.std.proofs.lemmas.List.Elements.{All-nil, All-cons, All-head, All-tail, All-append, All-map}
use Rattle.std.proofs.lemmas.List.FromFn.{length-enumerate_from, get_or-enumerate_from}
use Rattle.std.proofs.lemmas.Option.{slice_get_within}
use Rattle.ldap_filter.specs.EnvPairs.{EnvPair}
use Rattle.pb_core.specs.AtLeast.{at_least}
use Rattle.pb_core.specs.Normal.{IsNormalOver}
use Rattle.pb_core.specs.Normalised.{AreSignedAmong, IsModerate}
use Rattle.pb_core.specs.declared.constraint.Constraint.{Constraint}
use Rattle.pb_core.specs.declared.constraint.Origin.TheVariants as origin
use Rattle.pb_core.specs.declared.literal.SignedTerm.{SignedTerm}
use Rattle.unit_model.specs.Applies.{filter_true}
use Rattle.unit_model.specs.declared.name.UnitName.{UnitName}
use Rattle.unit_model.specs.declared.required.Required.{Required}
use Rattle.unit_model.specs.declared.unit.Unit.{Unit as Package}
use Rattle.pb_rows.specs.Deciding.{same_name, matches, is_single, is_other}
use Rattle.pb_rows.specs.Members.{numbered, variables}
use Rattle.pb_rows.specs.Normalising.{AreNormalised}
use Rattle.pb_rows.specs.Rows.{Row, term, positives, negatives, need_rows, most_rows, required_rows, unit_rows, beside, apart_rows, id_rows, ids, root_row, root_rows, requirement_rows, singleton_rows, rows}
use Rattle.pb_rows.proofs.VariableLaws.{each_variable}

abbrev IsAmong : ℕ → ℕ → Type 0
IsAmong n v = (0 < v) × (v ≤ n)

abbrev IsOver : ℕ → Row → Type 0
IsOver n row = AreSignedAmong n row.terms

variables_among : (test : Package → Bool) (members : List Package) → All (IsAmong (length members)) (variables test members)
variables_among test members k d h =
    let is = each_variable test members k d h in
    let within = slice_get_within members is.place is.unit is.here in
    (omega (arith, is.is), omega (arith, is.is, within))

terms_among : (n coef : ℕ) (truth : Bool) (vs : List ℕ) → All (IsAmong n) vs → AreSignedAmong n (map (term coef truth) vs)
terms_among n coef truth vs all = All-map (λ (t : SignedTerm). (0 < t.lit.variable) × (t.lit.variable ≤ n)) (term coef truth) vs all

pieces : {X Y : Type 0} (P : Y → Type 0) (f : X → List Y) (Q : X → Type 0) → ((x : X) → Q x → All P (f x)) → (xs : List X) → All Q xs → All P (flat_map f xs)
pieces P f Q each [] all = All-nil P
pieces P f Q each (x ∷ xs) all = All-append P (f x) (flat_map f xs) (each x (All-head Q x xs all)) (pieces P f Q each xs (All-tail Q x xs all))

need_over : (n v row min : ℕ) (matching : List ℕ) → IsAmong n v → All (IsAmong n) matching → All (IsOver n) (need_rows v row min matching)
need_over n v row min matching one all = by (eqb min 0)
  where
    by : (b : Bool) → All (IsOver n) (cond b [] (record { terms = term min false v ∷ positives matching; degree = pos min; origin = origin.Need v row } ∷ []))
    by true = All-nil (IsOver n)
    by false = All-cons (IsOver n) (record { terms = term min false v ∷ positives matching; degree = pos min; origin = origin.Need v row }) []
        (All-cons (λ (t : SignedTerm). (0 < t.lit.variable) × (t.lit.variable ≤ n)) (term min false v) (positives matching) one (terms_among n 1 true matching all))
        (All-nil (IsOver n))

most_over : (n v row max : ℕ) (matching : List ℕ) → IsAmong n v → All (IsAmong n) matching → All (IsOver n) (most_rows v row max matching)
most_over n v row max matching one all = by (leb (length matching) max)
  where
    by : (b : Bool) → All (IsOver n) (cond b [] (record { terms = term (length matching - max) false v ∷ negatives matching; degree = pos (length matching - max); origin = origin.Most v row } ∷ []))
    by true = All-nil (IsOver n)
    by false = All-cons (IsOver n) (record { terms = term (length matching - max) false v ∷ negatives matching; degree = pos (length matching - max); origin = origin.Most v row }) []
        (All-cons (λ (t : SignedTerm). (0 < t.lit.variable) × (t.lit.variable ≤ n)) (term (length matching - max) false v) (negatives matching) one (terms_among n 1 false matching all))
        (All-nil (IsOver n))

required_over : (members : List Package) (env : List EnvPair) (v : ℕ) (m : ℕ × Required) → IsAmong (length members) v → All (IsOver (length members)) (required_rows members env v m)
required_over members env v m one = by (filter_true env m.1.filter)
  where
    by : (b : Bool) → All (IsOver (length members)) (cond b (need_rows v m.0 m.1.min (variables (matches m.1) members) ++ most_rows v m.0 m.1.max (variables (matches m.1) members)) [])
    by true =
        All-append (IsOver (length members)) (need_rows v m.0 m.1.min (variables (matches m.1) members)) (most_rows v m.0 m.1.max (variables (matches m.1) members))
        (need_over (length members) v m.0 m.1.min (variables (matches m.1) members) one (variables_among (matches m.1) members))
        (most_over (length members) v m.0 m.1.max (variables (matches m.1) members) one (variables_among (matches m.1) members))
    by false = All-nil (IsOver (length members))

numbered_among : (members : List Package) → All (λ m. IsAmong (length members) m.0) (numbered members)
numbered_among members k d h =
    let within : k < length members = rw (length-enumerate_from 1 members) at h in
    rw (get_or-enumerate_from 1 members k d within) (omega arith, omega arith)

apart_over : (n : ℕ) (id singles others : List ℕ) → All (IsAmong n) singles → All (IsAmong n) others → All (IsOver n) (apart_rows id singles others)
apart_over n id singles [] one other = by (leb (length singles) 1)
  where
    by : (b : Bool) → All (IsOver n) (cond b [] (record { terms = negatives singles; degree = pos (length singles - 1); origin = origin.One id } ∷ []))
    by true = All-nil (IsOver n)
    by false = All-cons (IsOver n) (record { terms = negatives singles; degree = pos (length singles - 1); origin = origin.One id }) [] (terms_among n 1 false singles one) (All-nil (IsOver n))
apart_over n id singles (first ∷ others) one other = by (eqb (length singles) 0)
  where
    by : (b : Bool) → All (IsOver n) (cond b [] (map (beside id singles) (first ∷ others)))
    by true = All-nil (IsOver n)
    by false =
        All-map (IsOver n) (beside id singles) (first ∷ others)
        (λ k d h.
        All-append (λ (t : SignedTerm). (0 < t.lit.variable) × (t.lit.variable ≤ n)) (negatives singles) (term 1 false (get_or (first ∷ others) k d) ∷ [])
        (terms_among n 1 false singles one)
        (All-cons (λ (t : SignedTerm). (0 < t.lit.variable) × (t.lit.variable ≤ n)) (term 1 false (get_or (first ∷ others) k d)) [] (other k d h) (All-nil (λ (t : SignedTerm). (0 < t.lit.variable) × (t.lit.variable ≤ n)))))

pub rows_over : (members : List Package) (roots : List UnitName) (env : List EnvPair) → All (λ row. AreSignedAmong (length members) row.terms) (rows members roots env)
rows_over members roots env =
    All-append (IsOver (length members)) (root_rows members roots ++ requirement_rows members env) (singleton_rows members)
    (All-append (IsOver (length members)) (root_rows members roots) (requirement_rows members env)
    (All-map (IsOver (length members)) (root_row members) roots (λ k d h. terms_among (length members) 1 true (variables (λ u. same_name u.name (get_or roots k d)) members) (variables_among (λ u. same_name u.name (get_or roots k d)) members)))
    (pieces (IsOver (length members)) (unit_rows members env) (λ m. IsAmong (length members) m.0)
    (λ m one. pieces (IsOver (length members)) (required_rows members env m.0) (λ r. IsAmong (length members) m.0) (λ r among. required_over members env m.0 r among) (enumerate_from 1 m.1.required) (λ k d h. one))
    (numbered members) (numbered_among members)))
    (pieces (IsOver (length members)) (id_rows members) (λ id. ℕ)
    (λ id any. apart_over (length members) id (variables (is_single id) members) (variables (is_other id) members) (variables_among (is_single id) members) (variables_among (is_other id) members))
    (ids members) (λ k d h. 0))

pub normal_over : (n : ℕ) (given : List Row) (constraints : List Constraint) → AreNormalised given constraints → All (λ row. AreSignedAmong n row.terms) given → All (λ c. IsNormalOver n (at_least c)) constraints
normal_over n [] constraints is over = rw is (All-nil (λ (c : Constraint). IsNormalOver n (at_least c)))
normal_over n (row ∷ given) constraints is over = elim is [
  | inl left ↦ normal_over n given constraints left.1 (All-tail (λ (r : Row). AreSignedAmong n r.terms) row given over)
  | inr kept ↦
      rw kept.2
      (All-cons (λ (c : Constraint). IsNormalOver n (at_least c)) kept.0 kept.1
      (record { normal = kept.3.normal; among = kept.3.among n (All-head (λ (r : Row). AreSignedAmong n r.terms) row given over) })
      (normal_over n given kept.1 kept.4 (All-tail (λ (r : Row). AreSignedAmong n r.terms) row given over)))
]

-- ---- coefficients that a normal form may be made of

pub moderate : (n : ℕ) → n < 2 ^ 32 → IsModerate (pos n)
moderate n h = (omega (arith, ints), omega (arith, ints))

pub terms_moderate : (coef : ℕ) (truth : Bool) (vs : List ℕ) → coef < 2 ^ 32 → All (λ t. IsModerate t.coef) (map (term coef truth) vs)
terms_moderate coef truth vs h = All-map (λ (t : SignedTerm). IsModerate t.coef) (term coef truth) vs (λ k d within. moderate coef h)

pub weighed_moderate : (coef v : ℕ) (truth : Bool) (vs : List ℕ) → coef < 2 ^ 32 → All (λ t. IsModerate t.coef) (term coef false v ∷ map (term 1 truth) vs)
weighed_moderate coef v truth vs h = All-cons (λ (t : SignedTerm). IsModerate t.coef) (term coef false v) (map (term 1 truth) vs) (moderate coef h) (terms_moderate 1 truth vs (omega arith))

pub beside_moderate : (vs : List ℕ) (v : ℕ) → All (λ t. IsModerate t.coef) (map (term 1 false) vs ++ term 1 false v ∷ [])
beside_moderate vs v =
    All-append (λ (t : SignedTerm). IsModerate t.coef) (map (term 1 false) vs) (term 1 false v ∷ []) (terms_moderate 1 false vs (omega arith)) (terms_moderate 1 false (v ∷ []) (omega arith))
