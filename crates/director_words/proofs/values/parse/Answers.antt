use Rattle.std.proofs.Common.{◌≡◌, ◌∙◌, ℕ, List, [], map, true, ap, subst}
use Rattle.clap.specs.Words.{App, HasKind, HasMatchesOf, fault_of, is_simple_and_free}
use Rattle.director_words.specs.Values.{IsTaken, values_found, values_in, app_named}
use Rattle.director_words.proofs.Taken.{is_plain, is_simple_too, only_memory}
use Rattle.director_words.proofs.values.parse.Goals as goal

pub returns-in-Ok-clause-taken : goal.returns-in-Ok-clause-taken
unfolding IsTaken
returns-in-Ok-clause-taken c =
    let texts : List (List ℕ) = map (λ word. word.now) c.args.words.now in
    let Kept : App → Type 0 = λ a. is_simple_and_free a ≡ true → fault_of a texts ≡ [] in
    (subst Kept c.in_ok-command.ensures c.in-Ok.ensures.kinds) (is_plain c.args.name.now c.args.syntax.flags c.args.syntax.operands)

pub returns-in-Ok-clause-found : goal.returns-in-Ok-clause-found
unfolding values_found
returns-in-Ok-clause-found c =
    let texts : List (List ℕ) = map (λ word. word.now) c.args.words.now in
    let Has : App → Type 0 = λ a. HasMatchesOf a texts c.in-Ok.matches in
    let matched = (subst Has c.in_ok-command.ensures c.in-Ok.ensures.matches) (is_simple_too c.args.name.now c.args.syntax.flags c.args.syntax.operands) in
    c.in_ok-values_of-in-Ok.ensures ∙ ap values_in matched.0

pub returns-clause-only : goal.returns-clause-only
unfolding IsTaken
returns-clause-only c = λ taken e.
    let texts : List (List ℕ) = map (λ word. word.now) c.args.words.now in
    let Refused : App → Type 0 = λ a. is_simple_and_free a ≡ true → HasKind (fault_of a texts) c.in-Err.error in
    let has = (subst Refused c.in_ok-command.ensures c.in-Err.ensures.kinds) (is_plain c.args.name.now c.args.syntax.flags c.args.syntax.operands) in
    only_memory (fault_of (app_named c.args.name.now c.args.syntax) texts) c.in-Err.error has taken (λ memory. c.in_default.not-OutOfMemory (c.kind.ensures ∙ memory))
