use Rattle.std.proofs.Common.{◌≡◌, [], ◌∷◌, Result, Ok, Err, inl, inr, ◌⊎◌, ◌∙◌, ap}
use Rattle.director_words.specs.declared.request.Request.{Request}
use Rattle.director_words.specs.declared.request.Request.TheVariants.{Install}
use Rattle.director_words.specs.declared.request.RequestFault.{RequestFault}
use Rattle.director_words.specs.declared.request.RequestFault.TheVariants.{Usage, NoMemory}
use Rattle.director_core.proofs.decision.read_words.Goals as goal

no_usage : (r : Result Request RequestFault) (request : Request) → r ≡ Err Usage → (r ≡ Ok request) ⊎ (r ≡ Err NoMemory) → ⊥
no_usage r request usage (inl e) = cc
no_usage r request usage (inr e) = cc

pub returns-in-Err-Usage-clause-refused : goal.returns-in-Err-Usage-clause-refused
returns-in-Err-Usage-clause-refused c = λ (profile, word, asked).
    let usage : c.read_request.result ≡ Err Usage = c.in-Err-Usage.is ∙ ap Err c.in-Err-Usage.field-0-is in
    no_usage c.read_request.result (Install profile asked.budget (word ∷ [])) usage (c.read_request.ensures.only _ asked.asks)
