use Rattle.std.proofs.Common.{ap, ◌∙◌}
use Rattle.deriv_check.specs.EvidenceForm.{IsLine}
use Rattle.deriv_check.specs.EvidenceText.{derived_words, derived_line}
use Rattle.deriv_check.specs.Reading.{seen}
use Rattle.deriv_check.proofs.LineWords.{derived_are_words}
use Rattle.deriv_check.proofs.WordLaws.{reading_line}
use Rattle.deriv_check.proofs.line_reader.read_derived.Goals as goal

pub returns : goal.returns
unfolding derived_line
returns c =
    let words = ap seen c.deref.ensures.value ∙ c.in_ok-words.ensures in
    reading_line IsLine derived_words c.args.line.now (seen c.deref.result.now) c.read_derived_words.result words derived_are_words c.read_derived_words.ensures
