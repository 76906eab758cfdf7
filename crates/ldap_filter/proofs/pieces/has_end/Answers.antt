use Rattle.std.proofs.Common.{◌≡◌, ◌≤◌, None, Some, ◌∷◌, [], ◌++◌, length, ap, sym, ◌∙◌, arith}
use Rattle.std.proofs.lemmas.List.{drop_all}
use Rattle.ldap_filter.specs.Behind.{behind}
use Rattle.ldap_filter.proofs.PieceLemmas.{end_fits, end_fits-nowhere, end_fits-passed, end_fits-last}
use Rattle.ldap_filter.proofs.pieces.has_end.Goals as goal

pub returns-in-None : goal.returns-in-None
returns-in-None c =
    let none : behind c.piece-item.result c.loop-piece.rest.now ≡ None = rw c.bytes.ensures.value at (sym c.in-None.ensures) in
    end_fits-nowhere c.args.middle.now c.loop-piece.piece-index c.piece-item.result c.args.last.now c.loop-piece.rest.now _ c.loop-piece-test.true c.piece-item.is c.loop-piece.invariant none

pub loop-piece-preserved : goal.loop-piece-preserved
loop-piece-preserved c =
    let found : behind c.piece-item.result c.loop-piece.rest.now ≡ Some c.in-Some.shorter.now = rw c.bytes.ensures.value at (sym c.in-Some.ensures) in
    end_fits-passed c.args.middle.now c.loop-piece.piece-index c.piece-item.result c.args.last.now c.loop-piece.rest.now c.in-Some.shorter.now _ c.loop-piece-test.true c.piece-item.is c.loop-piece.invariant found

pub returns : goal.returns
returns c =
    let all : length c.args.middle.now ≤ c.loop-piece.piece-index = omega arith in
    let none = drop_all c.loop-piece.piece-index c.args.middle.now all in
    c.ends_with.ensures.value ∙ sym (c.loop-piece.invariant ∙ (ap (λ pieces. end_fits (pieces ++ c.args.last.now ∷ []) c.loop-piece.rest.now) none ∙ end_fits-last c.args.last.now c.loop-piece.rest.now))
