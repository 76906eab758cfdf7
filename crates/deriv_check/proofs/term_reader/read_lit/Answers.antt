use Rattle.std.proofs.Common.{◌≡◌, ℕ, List, ◌∷◌, ◌++◌, Some, None, ap, sym, ◌∙◌}
use Rattle.std.proofs.lemmas.Bool.Decides.{Decides-eqb}
use Rattle.std.proofs.lemmas.Slice.Eq.{strip_prefix_is}
use Rattle.deriv_check.proofs.ColonLaws.{lit_minus_read, lit_plain_read}
use Rattle.deriv_check.proofs.term_reader.read_lit.Goals as goal

pub returns-in-Some : goal.returns-in-Some
returns-in-Some c =
    let cut = strip_prefix_is Decides-eqb c.args.word.now c.as_slice.result.now (Some c.in-Some.digits) c.in-Some.ensures.cases in
    let is : c.args.word.now ≡ 45 ∷ c.in-Some.digits.now = cut ∙ ap (λ (p : List ℕ). p ++ c.in-Some.digits.now) c.as_slice.ensures in
    lit_minus_read c.args.word.now c.in-Some.digits.now c.read_signed.result is c.read_signed.ensures.variable c.read_signed.ensures.sign

pub returns-in-None : goal.returns-in-None
returns-in-None c =
    let cut = strip_prefix_is Decides-eqb c.args.word.now c.as_slice.result.now None c.in-None.ensures.cases in
    lit_plain_read c.args.word.now c.read_signed-in-None.result (λ rest e. cut rest (e ∙ ap (λ (p : List ℕ). p ++ rest) (sym c.as_slice.ensures)))
    c.read_signed-in-None.ensures.variable c.read_signed-in-None.ensures.sign
