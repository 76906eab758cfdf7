-- Constraints of rows, one after the other.
use Rattle.std.proofs.Common.{◌≡◌, ℕ, ◌+◌, ◌<◌, inl, inr, Bool, List, [], ◌∷◌, ◌++◌, length, map, All, ◌↔◌, refl, sym, ◌∙◌, ap, subst, append_assoc}
use Rattle.std.proofs.lemmas.List.{append-nil}
use Rattle.std.proofs.lemmas.List.Elements.{All-nil, All-cons, All-head, All-tail}
use Rattle.std.proofs.lemmas.List.Sums.{sum_by_push}
use Rattle.pb_core.specs.AtLeast.{at_least}
use Rattle.pb_core.specs.Satisfied.{IsSatisfied, SatisfiesAll}
use Rattle.pb_core.specs.declared.constraint.Constraint.{Constraint}
use Rattle.pb_core.proofs.NormalLaws.{normalised_same}
use Rattle.pb_rows.specs.Normalising.{Satisfies, IsNormalOf, AreNormalised, HasMoreTerms, term_count}
use Rattle.pb_rows.specs.Rows.{Row}

pub constraints_hold : (full : ℕ → Bool) (rows : List Row) (constraints : List Constraint) → AreNormalised rows constraints → SatisfiesAll full (map at_least constraints) ↔ All (Satisfies full) rows
constraints_hold full [] constraints n = (λ s. All-nil (Satisfies full), λ all. rw n (All-nil (IsSatisfied full)))
constraints_hold full (row ∷ rows) constraints n = elim n [
  | inl left ↦
      let rest = constraints_hold full rows constraints left.1 in
      (λ s. All-cons (Satisfies full) row rows (left.0 full) (rest.0 s), λ all. rest.1 (All-tail (Satisfies full) row rows all))
  | inr kept ↦
      let rest = constraints_hold full rows kept.1 kept.4 in
      let same = normalised_same row.terms row.degree (at_least kept.0) kept.3.normalised full in (
        λ s.
            let both : SatisfiesAll full (map at_least (kept.0 ∷ kept.1)) = rw kept.2 at s in
            All-cons (Satisfies full) row rows
            (same.0 (All-head (IsSatisfied full) (at_least kept.0) (map at_least kept.1) both))
            (rest.0 (All-tail (IsSatisfied full) (at_least kept.0) (map at_least kept.1) both)),
        λ all.
            rw kept.2
            (All-cons (IsSatisfied full) (at_least kept.0) (map at_least kept.1)
            (same.1 (All-head (Satisfies full) row rows all))
            (rest.1 (All-tail (Satisfies full) row rows all))),
      )
]

pub normalised_append : (a b : List Row) (x y : List Constraint) → AreNormalised a x → AreNormalised b y → AreNormalised (a ++ b) (x ++ y)
normalised_append [] b x y n m = rw n m
normalised_append (row ∷ a) b x y n m = elim n [
  | inl left ↦ inl (left.0, normalised_append a b x y left.1 m)
  | inr kept ↦ inr (kept.0, kept.1 ++ y, rw kept.2 refl, kept.3, normalised_append a b kept.1 y kept.4 m)
]

pub normalised_kept : (rows : List Row) (row : Row) (constraints : List Constraint) (c : Constraint) → AreNormalised rows constraints → IsNormalOf row c → AreNormalised (rows ++ row ∷ []) (constraints ++ c ∷ [])
normalised_kept rows row constraints c n is = normalised_append rows (row ∷ []) constraints (c ∷ []) n (inr (c, [], refl, is, refl))

pub normalised_left : (rows : List Row) (row : Row) (constraints : List Constraint) → AreNormalised rows constraints → ((full : ℕ → Bool) → Satisfies full row) → AreNormalised (rows ++ row ∷ []) constraints
normalised_left rows row constraints n always =
    let P : List Constraint → Type 0 = λ cs. AreNormalised (rows ++ row ∷ []) cs in
    subst P (append-nil constraints) (normalised_append rows (row ∷ []) constraints [] n (inl (always, refl)))

pub more_terms_append : (most : ℕ) (rows more : List Row) → HasMoreTerms most rows → HasMoreTerms most (rows ++ more)
more_terms_append most rows more many = record {
  first = many.first;
  later = many.later ++ more;
  split = ap (λ xs. xs ++ more) many.split ∙ append_assoc many.first many.later more;
  constraints = many.constraints;
  normalised = many.normalised;
  many = many.many;
}

pub more_terms_now : (most : ℕ) (rows : List Row) (constraints : List Constraint) → AreNormalised rows constraints → most < term_count constraints → HasMoreTerms most rows
more_terms_now most rows constraints n many = record {
  first = rows;
  later = [];
  split = sym (append-nil rows);
  constraints = constraints;
  normalised = n;
  many = many;
}

pub term_count_push : (constraints : List Constraint) (c : Constraint) → term_count (constraints ++ c ∷ []) ≡ term_count constraints + length c.terms
term_count_push constraints c = sum_by_push (λ (k : Constraint). length k.terms) constraints c
