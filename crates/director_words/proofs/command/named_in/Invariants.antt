use Rattle.std.proofs.Common.{◌≡◌, map, drop}
use Rattle.director_words.specs.Command.{row_of, named_in}
use Rattle.director_words.proofs.command.named_in.Given as goal

-- the rows passed over have another name
abbrev pub invariant-loop-word : goal.invariant-loop-word
invariant-loop-word l = named_in (map row_of l.rows) l.name ≡ named_in (map row_of (drop l.word-index l.rows)) l.name
