use Rattle.std.proofs.Common.{◌≡◌, ◌∙◌, ℕ, List, [], ◌∷◌, true, false, Option, None, Some, ◌==◌, sym, subst, arith, length, codes}
use Rattle.std.specs.Str.{IsUtf8, bytes_eq}
use Rattle.std.proofs.lemmas.Bool.Decides.{nat_tests}
use Rattle.std.proofs.lemmas.List.{nil_from_length}
use Rattle.std.proofs.lemmas.Slice.Eq.{bytes_eq-Decides}
use Rattle.osgi_version.specs.Field.{field}
use Rattle.pb_core.specs.declared.literal.Term.{Term}
use Rattle.deriv_check.specs.Colon.{ArePair}
use Rattle.deriv_check.specs.EvidenceText.{pair_word}
use Rattle.deriv_check.specs.Reading.{Reading}
use Rattle.deriv_check.proofs.OriginLaws.{root_read, one_read, need_read, most_read, other_read}
use Rattle.deriv_check.proofs.origin_reader.read_origin.Goals as goal
use Rattle.deriv_check.proofs.origin_reader.read_origin.Goals.{else-eq-via-then-eq+else-is_empty, else-eq-via-else-eq}

differs : (a b : List ℕ) → bytes_eq a b ≡ false → a ≡ b → ⊥
differs a b ne e = let same : bytes_eq a b ≡ true = (bytes_eq-Decides a b).1 e in cc

same_bytes : (a b : List ℕ) → bytes_eq a b ≡ true → a ≡ b
same_bytes a b eq = (bytes_eq-Decides a b).0 eq

no_length : (n : ℕ) → (n == 0) ≡ true → n ≡ 0
no_length n h = grind (arith, nat_tests)

some_length : (terms : List Term) → (length terms == 0) ≡ false → terms ≡ [] → ⊥
some_length [] h e = cc
some_length (t ∷ terms) h e = cc

pub returns-in_default-2 : goal.returns-in_default-2
returns-in_default-2 c =
    root_read c.args.labels.now c.args.terms.now c.args.word.now c.in-Some.kind.now c.in-Some.rest.now None
    (nil_from_length c.args.terms.now (no_length (length c.args.terms.now) (sym c.is_empty.ensures ∙ c.if-is_empty.true))) c.in-Some.ensures.1
    (same_bytes c.in-Some.kind.now c.as_slice.result.now (sym c.eq.ensures ∙ c.if-eq.true) ∙ c.as_slice.ensures)
    (subst (λ (o : Option (List ℕ)). Reading IsUtf8 field c.in-Some.rest.now o) c.in_default-2.is c.in_ok-label.ensures)

pub returns-in_default-3 : goal.returns-in_default-3
returns-in_default-3 c =
    one_read c.args.labels.now c.args.terms.now c.args.word.now c.in-Some.kind.now c.in-Some.rest.now None c.in-Some.ensures.1
    (same_bytes c.in-Some.kind.now c.as_slice-2.result.now (sym c.eq-2.ensures ∙ c.if-eq-2.true) ∙ c.as_slice-2.ensures)
    (subst (λ (o : Option (List ℕ)). Reading IsUtf8 field c.in-Some.rest.now o) c.in_default-3.is c.in_ok-id.ensures)

pub returns-then-eq-2 : goal.returns-then-eq-2
returns-then-eq-2 c =
    one_read c.args.labels.now c.args.terms.now c.args.word.now c.in-Some.kind.now c.in-Some.rest.now (Some c.in-Some-3.id) c.in-Some.ensures.1
    (same_bytes c.in-Some.kind.now c.as_slice-2.result.now (sym c.eq-2.ensures ∙ c.if-eq-2.true) ∙ c.as_slice-2.ensures)
    (subst (λ (o : Option (List ℕ)). Reading IsUtf8 field c.in-Some.rest.now o) c.in-Some-3.is c.in_ok-id.ensures)

pub returns-in_default-4 : goal.returns-in_default-4
returns-in_default-4 c =
    need_read c.args.labels.now c.args.terms.now c.args.word.now c.in-Some.kind.now c.in-Some.rest.now None c.in-Some.ensures.1
    (same_bytes c.in-Some.kind.now c.as_slice-3.result.now (sym c.eq-3.ensures ∙ c.if-eq-3.true) ∙ c.as_slice-3.ensures)
    (subst (λ (o : Option (ℕ × ℕ)). Reading ArePair (λ p. pair_word p.0 p.1) c.in-Some.rest.now o) c.in_default-4.is c.in_ok-variable.ensures)

pub returns-then-eq-3 : goal.returns-then-eq-3
returns-then-eq-3 c =
    need_read c.args.labels.now c.args.terms.now c.args.word.now c.in-Some.kind.now c.in-Some.rest.now (Some (c.in-Some-4.variable, c.in-Some-4.row)) c.in-Some.ensures.1
    (same_bytes c.in-Some.kind.now c.as_slice-3.result.now (sym c.eq-3.ensures ∙ c.if-eq-3.true) ∙ c.as_slice-3.ensures)
    (subst (λ (o : Option (ℕ × ℕ)). Reading ArePair (λ p. pair_word p.0 p.1) c.in-Some.rest.now o) c.in-Some-4.is c.in_ok-variable.ensures)

pub returns-in_default-5 : goal.returns-in_default-5
returns-in_default-5 c =
    most_read c.args.labels.now c.args.terms.now c.args.word.now c.in-Some.kind.now c.in-Some.rest.now None c.in-Some.ensures.1
    (same_bytes c.in-Some.kind.now c.as_slice-4.result.now (sym c.eq-4.ensures ∙ c.if-eq-4.true) ∙ c.as_slice-4.ensures)
    (subst (λ (o : Option (ℕ × ℕ)). Reading ArePair (λ p. pair_word p.0 p.1) c.in-Some.rest.now o) c.in_default-5.is c.in_ok-variable-2.ensures)

pub returns-then-eq-4 : goal.returns-then-eq-4
returns-then-eq-4 c =
    most_read c.args.labels.now c.args.terms.now c.args.word.now c.in-Some.kind.now c.in-Some.rest.now (Some (c.in-Some-5.variable, c.in-Some-5.row)) c.in-Some.ensures.1
    (same_bytes c.in-Some.kind.now c.as_slice-4.result.now (sym c.eq-4.ensures ∙ c.if-eq-4.true) ∙ c.as_slice-4.ensures)
    (subst (λ (o : Option (ℕ × ℕ)). Reading ArePair (λ p. pair_word p.0 p.1) c.in-Some.rest.now o) c.in-Some-5.is c.in_ok-variable-2.ensures)

pub returns : goal.returns
returns c =
    let root : c.in-Some.kind.now ≡ codes "root" → c.args.terms.now ≡ [] → ⊥ =
    elim c.else-eq.branch [
      | else-eq-via-then-eq+else-is_empty w ↦ λ e none. some_length c.args.terms.now (sym w.is_empty.ensures ∙ w.if-is_empty.false) none
      | else-eq-via-else-eq w ↦ λ e none. differs c.in-Some.kind.now c.as_slice.result.now (sym c.eq.ensures ∙ w.if-eq.false) (e ∙ sym c.as_slice.ensures)
    ] in
    other_read c.args.labels.now c.args.terms.now c.args.word.now c.in-Some.kind.now c.in-Some.rest.now c.in-Some.ensures.0 c.in-Some.ensures.1 root
    (λ e. differs c.in-Some.kind.now c.as_slice-2.result.now (sym c.eq-2.ensures ∙ c.if-eq-2.false) (e ∙ sym c.as_slice-2.ensures))
    (λ e. differs c.in-Some.kind.now c.as_slice-3.result.now (sym c.eq-3.ensures ∙ c.if-eq-3.false) (e ∙ sym c.as_slice-3.ensures))
    (λ e. differs c.in-Some.kind.now c.as_slice-4.result.now (sym c.eq-4.ensures ∙ c.if-eq-4.false) (e ∙ sym c.as_slice-4.ensures))
