use Rattle.std.proofs.Common.{◌++◌, ◌∷◌, [], ◌+◌, length, map, sym, subst, ◌∙◌}
use Rattle.artifact_pool.specs.DigestText.{AreKnown, AreRead, IsFirstBadLine, lines, seen, without_cr}
use Rattle.artifact_pool.proofs.Reading.{ended_long, lines_seen, bad_front, bad_last}
use Rattle.artifact_pool.proofs.Sayings.{one_reading, read_behind, read_one}
use Rattle.artifact_pool.proofs.digests.read_digests.Goals as goal

pub returns-in-Some-2-clause-refused : goal.returns-in-Some-2-clause-refused
returns-in-Some-2-clause-refused c =
    let ended = c.in-Some.ended.now in
    let all = lines_seen c.args.text.now c.in_ok-pieces.pieces.items ended c.in-Some.last.now c.in_ok-pieces.ensures (sym c.deref.ensures.value ∙ c.in-Some.ensures.cases.0) in
    subst (λ l. IsFirstBadLine l (c.in-Some-2.place + 1)) (sym all)
    (bad_front (map without_cr (seen ended)) (c.in-Some.last.now.now ∷ []) (c.in-Some-2.place + 1) (rw c.in-Some-2.is at c.in_ok-place.ensures))

pub returns-then-not-branch-clause-refused : goal.returns-then-not-branch-clause-refused
returns-then-not-branch-clause-refused c =
    let ended = c.in-Some.ended.now in
    let all = lines_seen c.args.text.now c.in_ok-pieces.pieces.items ended c.in-Some.last.now c.in_ok-pieces.ensures (sym c.deref.ensures.value ∙ c.in-Some.ensures.cases.0) in
    let before = rw c.in_default-2.is at c.in_ok-place.ensures in
    subst (λ l. IsFirstBadLine l (length ended + 1)) (sym all)
    (subst (λ n. IsFirstBadLine (map without_cr (seen ended) ++ c.in-Some.last.now.now ∷ []) (n + 1)) (ended_long ended)
    (bad_last (map without_cr (seen ended)) c.in-Some.last.now.now before.0 before.1 (rw c.if-not-branch.true at c.in_ok-note.ensures)))

pub returns-clause-read : goal.returns-clause-read
returns-clause-read c =
    let ended = c.in-Some.ended.now in
    let all = lines_seen c.args.text.now c.in_ok-pieces.pieces.items ended c.in-Some.last.now c.in_ok-pieces.ensures (sym c.deref.ensures.value ∙ c.in-Some.ensures.cases.0) in
    let before = rw c.in_default-2.is at c.in_ok-place.ensures in
    let noted = rw c.if-not-branch.false at c.in_ok-note.ensures in (
      before.0 ++ noted.0,
      subst (λ l. AreRead l (before.0 ++ noted.0)) (sym all) (read_behind (map without_cr (seen ended)) (c.in-Some.last.now.now ∷ []) before.0 noted.0 before.1 (read_one c.in-Some.last.now.now noted.0 noted.1)),
      noted.2 before.0 before.2,
    )

pub returns-clause-only : goal.returns-clause-only
returns-clause-only c = λ known read.
    let found = returns-clause-read c in
    subst (λ k. AreKnown k c.note.new.digests) (one_reading (lines c.args.text.now) found.0 known found.1 read) found.2
