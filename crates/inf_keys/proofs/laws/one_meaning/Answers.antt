use Rattle.std.proofs.Common.{refl}
use Rattle.inf_keys.specs.KeyReading.{key_reading}
use Rattle.inf_keys.proofs.KeyLaws.{means, one_meaning, apart}
use Rattle.inf_keys.proofs.laws.one_meaning.Goals as goal

pub returns-clause-some : goal.returns-clause-some
returns-clause-some c = λ text. (key_reading text, means text)

pub returns-clause-one : goal.returns-clause-one
returns-clause-one c = one_meaning

pub returns-clause-written : goal.returns-clause-written
returns-clause-written c = λ key is. (is, refl)

pub returns-clause-apart : goal.returns-clause-apart
returns-clause-apart c = apart
