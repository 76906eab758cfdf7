use Rattle.std.proofs.Common.{List, take, map}
use Rattle.artifact_pool.specs.DigestText.{AreRead, AreKnown, seen, without_cr}
use Rattle.artifact_pool.specs.declared.digest_line.KnownDigest.{KnownDigest}
use Rattle.artifact_pool.proofs.digests.note_all.Given as goal

-- what the lines before this place say is noted
abbrev pub invariant-loop-place : goal.invariant-loop-place
invariant-loop-place l = (known : List KnownDigest) × AreRead (take l.place (map without_cr (seen l.pieces))) known × AreKnown known l.digests
