use Rattle.std.proofs.Common.{ap, ◌∙◌}
use Rattle.deriv_check.specs.Reading.{AreCounts}
use Rattle.deriv_check.specs.EvidenceText.{problem_words, problem_line}
use Rattle.deriv_check.specs.Reading.{seen}
use Rattle.deriv_check.proofs.LineWords.{problem_are_words}
use Rattle.deriv_check.proofs.WordLaws.{reading_line}
use Rattle.deriv_check.proofs.line_reader.read_problem_line.Goals as goal

pub returns : goal.returns
unfolding problem_line
returns c =
    let words = ap seen c.deref.ensures.value ∙ c.in_ok-words.ensures in
    reading_line AreCounts problem_words c.args.line.now (seen c.deref.result.now) c.read_problem_words.result words problem_are_words c.read_problem_words.ensures
