use Rattle.std.proofs.Common.{ap, ◌∙◌}
use Rattle.std.specs.Str.{IsUtf8}
use Rattle.deriv_check.specs.EvidenceText.{label_words, label_line}
use Rattle.deriv_check.specs.Reading.{seen}
use Rattle.deriv_check.proofs.LineWords.{label_are_words}
use Rattle.deriv_check.proofs.WordLaws.{reading_line}
use Rattle.deriv_check.proofs.line_reader.read_label.Goals as goal

pub returns : goal.returns
unfolding label_line
returns c =
    let words = ap seen c.deref.ensures.value ∙ c.in_ok-words.ensures in
    reading_line IsUtf8 label_words c.args.line.now (seen c.deref.result.now) c.read_label_words.result words label_are_words c.read_label_words.ensures
