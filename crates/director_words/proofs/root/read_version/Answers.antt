use Rattle.std.proofs.Common.{Ok, Some, inl, ap, ◌≡◌, ⊎_elim}
use Rattle.director_words.proofs.root.read_version.Goals as goal

pub returns-in-Ok-clause-only : goal.returns-in-Ok-clause-only
returns-in-Ok-clause-only c = λ v some den.
    ⊎_elim
    (λ e. let same : c.in-Ok.version ≡ v = cc in inl (ap (λ x. Ok (Some x)) same))
    (λ e. absurd cc)
    (c.in-Ok.ensures.only v den)

pub returns-in-Err-Raw-clause-only : goal.returns-in-Err-Raw-clause-only
returns-in-Err-Raw-clause-only c = λ v some den.
    ⊎_elim (λ e. absurd (cc)) (λ e. absurd (cc)) (c.in-Err-Raw.ensures.only v den)
