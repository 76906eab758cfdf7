use Rattle.std.proofs.Common.{ap, ◌∙◌}
use Rattle.deriv_check.specs.EvidenceForm.{IsConstraintOver}
use Rattle.deriv_check.specs.EvidenceText.{constraint_words, constraint_line}
use Rattle.deriv_check.specs.Reading.{seen}
use Rattle.deriv_check.proofs.ConstraintLaws.{constraint_are_words}
use Rattle.deriv_check.proofs.WordLaws.{reading_line}
use Rattle.deriv_check.proofs.constraint_reader.read_constraint.Goals as goal

pub returns : goal.returns
unfolding constraint_line
returns c =
    let words = ap seen c.deref.ensures.value ∙ c.in_ok-words.ensures in
    reading_line (IsConstraintOver c.args.labels.now) constraint_words c.args.line.now (seen c.deref.result.now) c.read_words.result words (constraint_are_words c.args.labels.now c.requires) c.read_words.ensures
