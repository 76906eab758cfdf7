use Rattle.std.proofs.Common.{◌≡◌, ℕ, suc, ◌<◌, ◌≤◌, false, Bool, List, [], ◌∷◌, ◌++◌, length, get_or, drop, refl, sym, ap, ◌∙◌, append-nil, drop-cons}
use Rattle.std.proofs.lemmas.List.{drop_all}
use Rattle.ldap_filter.specs.FilterValue.{Pieces, each_piece, with_star, pieces_from, pieces}
use Rattle.ldap_filter.proofs.FilterValues.{piece_utf8}
use Rattle.ldap_filter.proofs.value.pieces.Goals as goal

-- the pieces, with p for what is left
abbrev joined : List (List ℕ) → List ℕ → Pieces → List (List ℕ)
joined list piece p = list ++ (piece ++ p.first) ∷ p.later

at_star : (written : List ℕ) (e : Bool) (at : ℕ) → at < length written → e ≡ false → get_or written at 0 ≡ 42 → pieces_from e (drop at written) ≡ with_star (pieces_from false (drop (suc at) written))
at_star written e at inside plain star = rw (plain, drop-cons written at 0 inside, star) refl

before_star : (written piece : List ℕ) (list : List (List ℕ)) (e : Bool) (at : ℕ) → at < length written → e ≡ false → get_or written at 0 ≡ 42
    → joined list piece (pieces_from e (drop at written)) ≡ pieces written → list ++ piece ∷ each_piece (pieces_from false (drop (suc at) written)) ≡ pieces written
before_star written piece list e at inside plain star so_far =
    ap (λ q. list ++ q ∷ each_piece (pieces_from false (drop (suc at) written))) (sym (append-nil piece))
    ∙ (ap (joined list piece) (sym (at_star written e at inside plain star)) ∙ so_far)

at_end : (written : List ℕ) (e : Bool) (at : ℕ) → length written ≤ at → pieces_from e (drop at written) ≡ record { first = []; later = [] }
at_end written e at all = ap (pieces_from e) (drop_all at written all)

last_piece : (written piece : List ℕ) (list : List (List ℕ)) (e : Bool) (at : ℕ) → length written ≤ at
    → joined list piece (pieces_from e (drop at written)) ≡ pieces written → list ++ piece ∷ [] ≡ pieces written
last_piece written piece list e at all so_far =
    ap (λ q. list ++ q ∷ []) (sym (append-nil piece)) ∙ (ap (joined list piece) (sym (at_end written e at all)) ∙ so_far)

pub text_of-requires : goal.text_of-requires
text_of-requires c =
    let written = c.args.written.now in
    let piece = c.loop-byte.piece.items in
    rw c.as_slice.ensures.value
    (piece_utf8 written piece c.loop-byte.list _ c.requires.utf8 c.requires.whole
    (before_star written piece c.loop-byte.list c.loop-byte.escaped c.loop-byte.byte-index c.loop-byte-test.true c.if-escaped.false c.if-byte-eq42.true c.loop-byte.invariant))

pub text_of-requires-2 : goal.text_of-requires-2
text_of-requires-2 c =
    let written = c.args.written.now in
    let piece = c.loop-byte.piece.items in
    rw c.as_slice-2.ensures.value
    (piece_utf8 written piece c.loop-byte.list _ c.requires.utf8 c.requires.whole
    (last_piece written piece c.loop-byte.list c.loop-byte.escaped c.loop-byte.byte-index c.loop-byte-test.false c.loop-byte.invariant))
