use Rattle.std.proofs.Common.{◌≡◌, map, take}
use Rattle.director_words.proofs.values.all_copied.Given as goal

abbrev pub invariant-loop-text : goal.invariant-loop-text
invariant-loop-text l = l.copied ≡ map (λ t. t.now) (take l.text-index l.texts)
