use Rattle.std.specs.Prelude.{ℕ, List, codes}
use Rattle.director_words.specs.declared.limit.LimitName.{LimitName}
use Rattle.director_words.specs.declared.limit.LimitName.TheVariants.{Units, Requirements, FileBytes, InfBytes, SourceBytes}

-- what passed its limit, as it is printed
abbrev pub limit_word_of : LimitName → List ℕ
limit_word_of Units = codes "Units"
limit_word_of Requirements = codes "Requirements"
limit_word_of FileBytes = codes "FileBytes"
limit_word_of InfBytes = codes "InfBytes"
limit_word_of SourceBytes = codes "SourceBytes"
