use Rattle.std.proofs.Common.{All, take}
use Rattle.director_words.specs.Root.{IsRootWord}
use Rattle.director_words.proofs.fields.are_roots.Given as goal

abbrev pub invariant-loop-word : goal.invariant-loop-word
invariant-loop-word l = All IsRootWord (take l.word-index l.words)
