use Rattle.std.proofs.Common.{All, sym, ◌∙◌, subst, List, ℕ}
use Rattle.std.proofs.lemmas.List.Elements.{All-same}
use Rattle.std.proofs.lemmas.Result.{IfOk-weaker}
use Rattle.director_words.specs.Root.{IsRootWord}
use Rattle.director_words.proofs.fields.plan_of_roots.Goals as goal

pub returns-then-not-branch-clause-only : goal.returns-then-not-branch-clause-only
returns-then-not-branch-clause-only c = λ plan has.
    let Each : List (List ℕ) → Type 0 = All IsRootWord in
    let are = c.in_ok-are_roots.ensures.1 (subst Each (has.2.0 ∙ sym c.items.ensures) has.2.1) in
    absurd (cc)

pub returns-clause-found : goal.returns-clause-found
returns-clause-found c =
    let are = c.in_ok-are_roots.ensures.0 c.if-not-branch.false in
    IfOk-weaker c.plan_of.result _ _ (λ plan h. (h.0, h.1, (h.2, All-same IsRootWord plan.operands c.items.result.now (h.2 ∙ sym c.items.ensures) are))) c.plan_of.ensures.found
