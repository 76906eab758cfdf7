use Rattle.inf_keys.proofs.CaseNames.{word_named}
use Rattle.inf_keys.proofs.TableLemmas.{name_there, name_is}
use Rattle.inf_keys.proofs.words.word_name.Goals as goal

pub unreachable-requires : goal.unreachable-requires
unreachable-requires c = name_there _ _ _ _ _ c.words.ensures c.word_code.ensures (word_named c.args.word) c.in-None.ensures.value

pub returns : goal.returns
returns c = name_is _ _ _ _ _ c.words.ensures c.word_code.ensures (word_named c.args.word) _ c.in-Some.ensures.value
