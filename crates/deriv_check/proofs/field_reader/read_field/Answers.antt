use Rattle.deriv_check.proofs.FieldLaws.{field_reading}
use Rattle.deriv_check.proofs.field_reader.read_field.Goals as goal

pub returns : goal.returns
returns c = field_reading c.args.word.now c.read_field.result c.read_field.ensures
