-- Words have no blank.
use Rattle.std.proofs.Common.{◌≡◌, ℕ, arith, Bool, true, false, List, [], ◌∷◌, refl, codes}
use Rattle.std.specs.Fmt.{decimal}
use Rattle.std.proofs.lemmas.List.Elements.{All-cons, All-append}
use Rattle.osgi_version.specs.Field.{field}
use Rattle.pb_core.specs.declared.constraint.Origin.{Origin}
use Rattle.pb_core.specs.declared.constraint.Origin.TheVariants as origin
use Rattle.pb_core.specs.declared.literal.Lit.{Lit}
use Rattle.pb_core.specs.declared.literal.Term.{Term}
use Rattle.deriv_check.specs.EvidenceForm.{IsOrigin, IsLiteral, IsHint}
use Rattle.deriv_check.specs.EvidenceText.{lit_word, term_word, pair_word, origin_word}
use Rattle.deriv_check.specs.Terms.{IsTerm}
use Rattle.deriv_check.proofs.Few.{all_three, all_four}
use Rattle.deriv_check.proofs.WordLaws.{IsAbove, IsSolid, decimal_solid, field_solid}

pub solid_lit : (lit : Lit) → IsLiteral lit → IsSolid (lit_word lit)
solid_lit lit h = by lit.positive refl
  where
    by : (t : Bool) → lit.positive ≡ t → IsSolid (lit_word lit)
    by true e = rw e (decimal_solid lit.variable (omega arith))
    by false e = rw e (All-cons IsAbove 45 (decimal lit.variable) (omega arith, omega arith) (decimal_solid lit.variable (omega arith)))

pub solid_term : (t : Term) → IsTerm t → IsSolid (term_word t)
solid_term t h = All-append IsAbove (decimal t.coef) (58 ∷ lit_word t.lit) (decimal_solid t.coef h.0) (All-cons IsAbove 58 (lit_word t.lit) (omega arith, omega arith) (solid_lit t.lit h.1))

solid_pair : (n m : ℕ) → IsHint n → IsHint m → IsSolid (pair_word n m)
solid_pair n m h i =
    All-append IsAbove (decimal n) (58 ∷ decimal m) (decimal_solid n (omega (arith, h))) (All-cons IsAbove 58 (decimal m) (omega arith, omega arith) (decimal_solid m (omega (arith, i))))

solid_root : IsSolid (codes "root")
solid_root = all_four IsAbove 114 111 111 116 (omega arith, omega arith) (omega arith, omega arith) (omega arith, omega arith) (omega arith, omega arith)

solid_colon : (rest : List ℕ) → IsSolid rest → IsSolid (58 ∷ rest)
solid_colon rest h = All-cons IsAbove 58 rest (omega arith, omega arith) h

pub solid_origin : (terms : List Term) (o : Origin) → IsOrigin o → IsSolid (origin_word terms o)
solid_origin [] (origin.Root label) h = All-append IsAbove (codes "root") (58 ∷ field label) solid_root (solid_colon (field label) (field_solid label h))
solid_origin (t ∷ terms) (origin.Root label) h = solid_root
solid_origin terms (origin.Need variable row) h =
    All-append IsAbove (codes "need") (58 ∷ pair_word variable row) (all_four IsAbove 110 101 101 100 (omega arith, omega arith) (omega arith, omega arith) (omega arith, omega arith) (omega arith, omega arith))
    (solid_colon (pair_word variable row) (solid_pair variable row h.0 h.1))
solid_origin terms (origin.Most variable row) h =
    All-append IsAbove (codes "most") (58 ∷ pair_word variable row) (all_four IsAbove 109 111 115 116 (omega arith, omega arith) (omega arith, omega arith) (omega arith, omega arith) (omega arith, omega arith))
    (solid_colon (pair_word variable row) (solid_pair variable row h.0 h.1))
solid_origin terms (origin.One id) h =
    All-append IsAbove (codes "one") (58 ∷ field id) (all_three IsAbove 111 110 101 (omega arith, omega arith) (omega arith, omega arith) (omega arith, omega arith))
    (solid_colon (field id) (field_solid id h))
