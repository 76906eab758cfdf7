use Rattle.std.proofs.Common.{ℕ, ◌<◌, ◌^◌, Option, None, Some, subst, sym, arith, length, List}
use Rattle.std.specs.Fmt.{decimal}
use Rattle.pb_core.specs.Normal.{IsNormalOver}
use Rattle.pb_core.specs.declared.constraint.Origin.{Origin}
use Rattle.pb_core.specs.declared.literal.Term.{Term}
use Rattle.deriv_check.specs.EvidenceForm.{IsOriginOver}
use Rattle.deriv_check.specs.EvidenceText.{origin_word}
use Rattle.deriv_check.specs.Reading.{Reading}
use Rattle.deriv_check.specs.Terms.{constraint_of}
use Rattle.deriv_check.proofs.ConstraintLaws.{no_degree, no_terms, not_normal, no_origin, constraint_found}
use Rattle.deriv_check.proofs.constraint_reader.read_parts.Goals as goal

abbrev IsDegree : ℕ → Type 0
IsDegree n = n < 2 ^ 64

pub returns-in_default : goal.returns-in_default
returns-in_default c =
    no_degree c.args.labels.now c.args.origin.now c.args.degree.now _ (subst (λ (o : Option ℕ). Reading IsDegree decimal c.args.degree.now o) c.in_default.is c.in_ok-number.ensures)

pub returns-then-len-terms : goal.returns-then-len-terms
returns-then-len-terms c =
    no_terms c.args.labels.now c.args.origin.now c.args.degree.now c.args.terms.now c.in_ok-found.found c.requires c.in_ok-found.ensures (omega (arith, c.if-len-terms.true, c.len.ensures))

pub returns-then-not-is_normal : goal.returns-then-not-is_normal
returns-then-not-is_normal c =
    let other : IsNormalOver (length c.args.labels.now) (constraint_of c.in_ok-found.found c.in-Some.number) → ⊥ = λ normal.
    let is = c.is_normal.ensures.1 (subst (λ (ts : List Term). IsNormalOver (length c.args.labels.now) (constraint_of ts c.in-Some.number)) (sym c.items.ensures) normal) in
    cc in
    not_normal c.args.labels.now c.args.origin.now c.args.degree.now c.args.terms.now c.in_ok-found.found c.in-Some.number c.requires
    (subst (λ (o : Option ℕ). Reading IsDegree decimal c.args.degree.now o) c.in-Some.is c.in_ok-number.ensures)
    c.in_ok-found.ensures (omega (arith, c.if-len-terms.false, c.len.ensures)) other

pub returns-in_default-2 : goal.returns-in_default-2
returns-in_default-2 c =
    let read = subst (λ (o : Option Origin). Reading (IsOriginOver c.args.labels.now c.items-2.result.now) (origin_word c.items-2.result.now) c.args.origin.now o) c.in_default-2.is c.in_ok-origin.ensures in
    no_origin c.args.labels.now c.args.origin.now c.args.degree.now c.args.terms.now c.in_ok-found.found c.requires
    c.in_ok-found.ensures (omega (arith, c.if-len-terms.false, c.len.ensures))
    (subst (λ (ts : List Term). Reading (IsOriginOver c.args.labels.now ts) (origin_word ts) c.args.origin.now None) c.items-2.ensures read)

pub returns : goal.returns
returns c =
    let read = subst (λ (o : Option Origin). Reading (IsOriginOver c.args.labels.now c.items-2.result.now) (origin_word c.items-2.result.now) c.args.origin.now o) c.in-Some-2.is c.in_ok-origin.ensures in
    let normal = c.is_normal.ensures.0 (cc) in
    constraint_found c.args.labels.now c.args.origin.now c.args.degree.now c.args.terms.now c.in_ok-found.found c.in-Some.number c.in-Some-2.origin c.requires
    (subst (λ (o : Option ℕ). Reading IsDegree decimal c.args.degree.now o) c.in-Some.is c.in_ok-number.ensures)
    c.in_ok-found.ensures (omega (arith, c.if-len-terms.false, c.len.ensures))
    (subst (λ (ts : List Term). IsNormalOver (length c.args.labels.now) (constraint_of ts c.in-Some.number)) c.items.ensures normal)
    (subst (λ (ts : List Term). Reading (IsOriginOver c.args.labels.now ts) (origin_word ts) c.args.origin.now (Some c.in-Some-2.origin)) c.items-2.ensures read)
