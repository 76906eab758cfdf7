-- A constraint, as it is read.
use Rattle.std.proofs.Common.{◌≡◌, ℕ, ◌<◌, ◌≤◌, ◌^◌, arith, List, ◌∷◌, length, map, Some, None, sym, ap, subst, ◌∙◌, All, Bor, codes}
use Rattle.std.specs.Fmt.{decimal}
use Rattle.pb_core.specs.AtLeast.{AtLeast, at_least}
use Rattle.pb_core.specs.Normal.{IsNormalOver}
use Rattle.pb_core.specs.declared.constraint.Constraint.{Constraint}
use Rattle.pb_core.specs.declared.constraint.Origin.{Origin}
use Rattle.pb_core.specs.declared.literal.Term.{Term}
use Rattle.deriv_check.specs.EvidenceForm.{IsCount, IsConstraintOver, IsOriginOver}
use Rattle.deriv_check.specs.EvidenceText.{origin_word, term_word, constraint_words}
use Rattle.std.proofs.lemmas.List.Elements.{All-cons, All-map, All-weaker}
use Rattle.deriv_check.proofs.Few.{all_one}
use Rattle.deriv_check.proofs.SolidLaws.{solid_origin, solid_term}
use Rattle.deriv_check.proofs.WordLaws.{IsAbove, IsSolid, AreWords, are_words, decimal_solid}
use Rattle.deriv_check.specs.Reading.{Reading, IsFront, seen}
use Rattle.deriv_check.specs.Terms.{IsTerm, constraint_of, constraint_parts}
use Rattle.deriv_check.proofs.ReadingLaws.{front_short, front_whole}

abbrev IsDegree : ℕ → Type 0
IsDegree n = n < 2 ^ 64

pub terms_of : (labels : List (List ℕ)) (x : Constraint) → IsCount (length labels) → IsConstraintOver labels x → All IsTerm x.terms
terms_of labels x few valid k d h =
    let coef = valid.normal.normal.coefs k d h in
    let among = valid.normal.among k d h in
    (omega (arith, coef.1, valid.normal.normal.small_degree), omega (arith, among.1, few))

-- the parts of words
record Parts (origin degree : List ℕ) (terms : List (List ℕ)) (x : Constraint) : Type 0 where
  first : origin ≡ origin_word x.terms x.origin
  second : degree ≡ decimal x.degree
  others : terms ≡ map term_word x.terms

parts : (origin degree : List ℕ) (terms : List (List ℕ)) (x : Constraint) → origin ∷ degree ∷ terms ≡ constraint_parts x → Parts origin degree terms x
parts origin degree terms x e = record { first = cc; second = cc; others = cc }

pub no_degree : (labels : List (List ℕ)) (origin degree : List ℕ) (terms : List (List ℕ)) → Reading IsDegree decimal degree None
    → Reading (IsConstraintOver labels) constraint_parts (origin ∷ degree ∷ terms) None
no_degree labels origin degree terms r = λ x valid e.
    r x.degree (omega (arith, valid.normal.normal.small_degree)) (parts origin degree terms x e).second

pub no_terms : (labels : List (List ℕ)) (origin degree : List ℕ) (terms : List (Bor (List ℕ))) (found : List Term) → IsCount (length labels)
    → IsFront IsTerm term_word (seen terms) found → length found < length terms
    → Reading (IsConstraintOver labels) constraint_parts (origin ∷ degree ∷ seen terms) None
no_terms labels origin degree terms found few front h = λ x valid e.
    front_short IsTerm term_word terms found front h x.terms (terms_of labels x few valid) (parts origin degree (seen terms) x e).others

same_terms : (labels : List (List ℕ)) (origin degree : List ℕ) (terms : List (Bor (List ℕ))) (found : List Term) → IsCount (length labels)
    → IsFront IsTerm term_word (seen terms) found → length terms ≤ length found
    → (x : Constraint) → IsConstraintOver labels x → origin ∷ degree ∷ seen terms ≡ constraint_parts x → x.terms ≡ found
same_terms labels origin degree terms found few front h x valid e =
    front.only x.terms (terms_of labels x few valid) (sym (parts origin degree (seen terms) x e).others ∙ front_whole IsTerm term_word terms found front h)

same_degree : (labels : List (List ℕ)) (origin degree : List ℕ) (terms : List (List ℕ)) (number : ℕ) → Reading IsDegree decimal degree (Some number)
    → (x : Constraint) → IsConstraintOver labels x → origin ∷ degree ∷ terms ≡ constraint_parts x → x.degree ≡ number
same_degree labels origin degree terms number r x valid e =
    r.2 x.degree (omega (arith, valid.normal.normal.small_degree)) (parts origin degree terms x e).second

pub not_normal : (labels : List (List ℕ)) (origin degree : List ℕ) (terms : List (Bor (List ℕ))) (found : List Term) (number : ℕ) → IsCount (length labels)
    → Reading IsDegree decimal degree (Some number) → IsFront IsTerm term_word (seen terms) found → length terms ≤ length found
    → (IsNormalOver (length labels) (constraint_of found number) → ⊥)
    → Reading (IsConstraintOver labels) constraint_parts (origin ∷ degree ∷ seen terms) None
not_normal labels origin degree terms found number few r front h other = λ x valid e.
    let t = same_terms labels origin degree terms found few front h x valid e in
    let d = same_degree labels origin degree (seen terms) number r x valid e in
    let same : at_least x ≡ constraint_of found number = λ i. record { terms = t i; degree = d i } in
    other (subst (λ (c : AtLeast). IsNormalOver (length labels) c) same valid.normal)

origin_along : (labels : List (List ℕ)) (origin : List ℕ) (a b : List Term) (o : Origin) → a ≡ b → IsOriginOver labels a o → origin ≡ origin_word a o
    → IsOriginOver labels b o × (origin ≡ origin_word b o)
origin_along labels origin a b o same valid e =
    (subst (λ (ts : List Term). IsOriginOver labels ts o) same valid, e ∙ ap (λ (ts : List Term). origin_word ts o) same)

pub no_origin : (labels : List (List ℕ)) (origin degree : List ℕ) (terms : List (Bor (List ℕ))) (found : List Term) → IsCount (length labels)
    → IsFront IsTerm term_word (seen terms) found → length terms ≤ length found → Reading (IsOriginOver labels found) (origin_word found) origin None
    → Reading (IsConstraintOver labels) constraint_parts (origin ∷ degree ∷ seen terms) None
no_origin labels origin degree terms found few front h r = λ x valid e.
    let t = same_terms labels origin degree terms found few front h x valid e in
    let o = origin_along labels origin x.terms found x.origin t valid.origin (parts origin degree (seen terms) x e).first in
    r x.origin o.0 o.1

pub constraint_found : (labels : List (List ℕ)) (origin degree : List ℕ) (terms : List (Bor (List ℕ))) (found : List Term) (number : ℕ) (o : Origin) → IsCount (length labels)
    → Reading IsDegree decimal degree (Some number) → IsFront IsTerm term_word (seen terms) found → length terms ≤ length found
    → IsNormalOver (length labels) (constraint_of found number) → Reading (IsOriginOver labels found) (origin_word found) origin (Some o)
    → Reading (IsConstraintOver labels) constraint_parts (origin ∷ degree ∷ seen terms) (Some (record { terms = found; degree = number; origin = o }))
constraint_found labels origin degree terms found number o few r front h normal s = (
  record { normal = normal; origin = s.0 },
  (λ i. s.1 i ∷ r.1 i ∷ front_whole IsTerm term_word terms found front h i),
  λ x valid e.
      let t = same_terms labels origin degree terms found few front h x valid e in
      let d = same_degree labels origin degree (seen terms) number r x valid e in
      let along = origin_along labels origin x.terms found x.origin t valid.origin (parts origin degree (seen terms) x e).first in
      let same = s.2 x.origin along.0 along.1 in
      λ i. record { terms = t i; degree = d i; origin = same i },
)

-- the words of each constraint are words
pub constraint_are_words : (labels : List (List ℕ)) → IsCount (length labels) → (x : Constraint) → IsConstraintOver labels x → AreWords (constraint_words x)
constraint_are_words labels few x valid =
    are_words (codes "c") (constraint_parts x) (all_one IsAbove 99 (omega arith, omega arith))
    (All-cons IsSolid (origin_word x.terms x.origin) (decimal x.degree ∷ map term_word x.terms) (solid_origin x.terms x.origin valid.origin.1)
    (All-cons IsSolid (decimal x.degree) (map term_word x.terms) (decimal_solid x.degree (omega (arith, valid.normal.normal.small_degree)))
    (All-map IsSolid term_word x.terms (All-weaker IsTerm (λ t. IsSolid (term_word t)) solid_term x.terms (terms_of labels x few valid)))))
