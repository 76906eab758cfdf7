use Rattle.pb_rows.proofs.RequirementLaws.{requirements_hold as law}
use Rattle.pb_rows.proofs.laws.requirement_rows_ask_for_enough.Goals as goal

pub returns : goal.returns
returns c = law
