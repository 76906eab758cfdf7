use Rattle.director_words.proofs.Cuts.{no_pair, key_of_pair}
use Rattle.director_words.proofs.pair.is_pair.Goals as goal

pub returns-in-Some : goal.returns-in-Some
returns-in-Some c =
    let cut = c.in-Some.ensures in (
      λ e. record { key = c.in-Some.key.now; value = c.in-Some._value.now; whole = cut.1; is_key = c.is_env_key.ensures.0 e },
      λ pair. c.is_env_key.ensures.1 (key_of_pair c.args.word.now c.in-Some.key.now c.in-Some._value.now cut.0 cut.1 pair),
    )

pub returns-in-None : goal.returns-in-None
returns-in-None c = (λ e. absurd (cc), λ pair. absurd (no_pair c.args.word.now c.in-None.ensures pair))
