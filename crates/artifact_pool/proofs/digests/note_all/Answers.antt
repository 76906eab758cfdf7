use Rattle.std.proofs.Common.{◌++◌, ◌<◌, length, map, arith, sym, subst, ◌∙◌}
use Rattle.artifact_pool.specs.DigestText.{IsSaid, seen, without_cr}
use Rattle.artifact_pool.proofs.Reading.{ended_long, ended_line, first_bad, read_more}
use Rattle.artifact_pool.proofs.digests.note_all.Goals as goal

pub returns-then-not-branch : goal.returns-then-not-branch
returns-then-not-branch c =
    let so_far = c.loop-place.invariant in
    let pieces = c.args.pieces.now in
    let inside : c.loop-place.place < length pieces = omega (arith, c.loop-place-test.true) in
    let here = ended_line pieces c.loop-place.place _ inside ∙ sym c.without_cr.ensures in
    first_bad (map without_cr (seen pieces)) c.loop-place.place so_far.0 (omega (arith, inside, ended_long pieces)) so_far.1
    (λ said is. (rw c.if-not-branch.true at c.in_ok-note.ensures) said (subst (λ l. IsSaid l said) here is))

pub loop-place-preserved : goal.loop-place-preserved
loop-place-preserved c =
    let so_far = c.loop-place.invariant in
    let pieces = c.args.pieces.now in
    let inside : c.loop-place.place < length pieces = omega (arith, c.loop-place-test.true) in
    let here = ended_line pieces c.loop-place.place _ inside ∙ sym c.without_cr.ensures in
    let noted = rw c.if-not-branch.false at c.in_ok-note.ensures in (
      so_far.0 ++ noted.0,
      read_more (map without_cr (seen pieces)) c.loop-place.place so_far.0 noted.0 (omega (arith, inside, ended_long pieces)) so_far.1 (subst (λ l. IsSaid l noted.0) (sym here) noted.1),
      noted.2 so_far.0 so_far.2,
    )
