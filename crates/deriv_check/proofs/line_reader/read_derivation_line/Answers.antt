use Rattle.std.proofs.Common.{ap, ◌∙◌}
use Rattle.deriv_check.specs.EvidenceForm.{IsCount}
use Rattle.deriv_check.specs.EvidenceText.{derivation_words, derivation_line}
use Rattle.deriv_check.specs.Reading.{seen}
use Rattle.deriv_check.proofs.LineWords.{derivation_are_words}
use Rattle.deriv_check.proofs.WordLaws.{reading_line}
use Rattle.deriv_check.proofs.line_reader.read_derivation_line.Goals as goal

pub returns : goal.returns
unfolding derivation_line
returns c =
    let words = ap seen c.deref.ensures.value ∙ c.in_ok-words.ensures in
    reading_line IsCount derivation_words c.args.line.now (seen c.deref.result.now) c.read_derivation_words.result words derivation_are_words c.read_derivation_words.ensures
