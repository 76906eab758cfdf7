use Rattle.unit_text.proofs.Walks as walks
use Rattle.unit_text.proofs.laws.one_text.Goals as goal

pub returns : goal.returns
returns c = walks.one_text
