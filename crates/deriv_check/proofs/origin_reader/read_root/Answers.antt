use Rattle.std.proofs.Common.{◌≡◌, ◌∙◌, ℕ, List, Bool, true, false, not, sym, subst, arith}
use Rattle.std.specs.Str.{IsUtf8, bytes_eq}
use Rattle.std.proofs.lemmas.Slice.Eq.{bytes_eq-Decides}
use Rattle.std.proofs.lemmas.List.{get_or_default}
use Rattle.deriv_check.proofs.OriginLaws.{root_uncut, root_of_none, root_of_label}
use Rattle.deriv_check.proofs.origin_reader.read_root.Goals as goal

differs : (a b : List ℕ) → not (bytes_eq a b) ≡ true → a ≡ b → ⊥
differs a b ne e = let same : bytes_eq a b ≡ true = (bytes_eq-Decides a b).1 e in cc

negated : (t : Bool) → not t ≡ false → t ≡ true
negated true h = cc
negated false h = cc

same_bytes : (a b : List ℕ) → not (bytes_eq a b) ≡ false → a ≡ b
same_bytes a b eq = (bytes_eq-Decides a b).0 (negated (bytes_eq a b) eq)

pub returns-then-ne : goal.returns-then-ne
returns-then-ne c =
    root_uncut c.args.labels.now c.args.terms.now c.args.word.now c.requires.uncut
    (λ e. differs c.args.word.now c.as_slice.result.now (sym c.ne.ensures ∙ c.if-ne.true) (e ∙ sym c.as_slice.ensures))

pub returns-then-terms-ne1 : goal.returns-then-terms-ne1
returns-then-terms-ne1 c =
    root_of_none c.args.labels.now c.args.terms.now c.args.word.now c.if-terms-ne1.true (same_bytes c.args.word.now c.as_slice.result.now (sym c.ne.ensures ∙ c.if-ne.false) ∙ c.as_slice.ensures)

pub returns : goal.returns
returns c =
    let among = c.requires.among 0 (record { coef = 0; lit = record { variable = 0; positive = false } }) (omega arith) in
    root_of_label c.args.labels.now c.args.terms.now (record { coef = 0; lit = record { variable = 0; positive = false } }) c.args.word.now c.in_ok-label.label c.if-terms-ne1.false
    (same_bytes c.args.word.now c.as_slice.result.now (sym c.ne.ensures ∙ c.if-ne.false) ∙ c.as_slice.ensures)
    (c.in_ok-label.ensures.same ∙ c.index-labels-variable.is ∙ get_or_default c.args.labels.now _ c.index-labels-variable.result c.in_ok-label.label (omega (arith, among.0, among.1)))
    (omega (arith, among.0, among.1))
    (subst IsUtf8 (sym c.in_ok-label.ensures.same) c.in_ok-label.ensures.utf8)
