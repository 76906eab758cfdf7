-- The clauses of the top call, for each way through it.
use Rattle.std.proofs.Common.{◌≡◌, ℕ, List, ◌++◌, Option, ap, ◌∙◌, append_assoc}
use Rattle.folder_core.specs.Folder.{Told}
use Rattle.folder_core.specs.Step.{OnTold, Step}
use Rattle.folder_core.specs.Tree.{Files}
use Rattle.unit_model.specs.declared.unit.Unit.{Unit}
use Rattle.director_words.specs.declared.status.Status.{Status}
use Rattle.director_words.specs.declared.status.Status.TheVariants.{Done}
use Rattle.director_core.specs.Answer.{Installs, IsAnswer, IsPlainAnswer, IsAnswerOrFault, Leaves}
use Rattle.director_core.specs.Performs.{Fails, PrintsFailed, Adds}
use Rattle.director_core.specs.Printed.{Prints}
use Rattle.director_core.specs.Refuses.{Ends, WritesRefusal}
use Rattle.director_core.specs.Stops.{Stops}
use Rattle.director_core.proofs.Endings.{ends_answer, stopped_leaves, stopped_prints, failed_prints}
use Rattle.director_core.proofs.OnlyAnswer.{only_answer}
use Rattle.director_source.proofs.Steps.{step_then, step_weaker, on_told_all, both_weaker}

-- ---- a stage before the plan gave up

pub stopped_answer : (a : Option Told) (b : Option Files) (words : List (List ℕ)) (s r : Status) (failed : Type 0) → Ends s r failed
    → OnTold a (λ t. OnTold b (λ files. IsAnswer words t.now files s))
    → OnTold a (λ t. OnTold b (λ files. IsAnswer words t.now files r))
stopped_answer a b words s r failed e answer =
    both_weaker a b (λ t files. IsAnswer words t.now files s) (λ t files. IsAnswer words t.now files r) answer
    (λ t files h. ends_answer words t.now files s r failed e h)

pub stopped_only : (a : Option Told) (b : Option Files) (words : List (List ℕ)) (s r : Status) (failed : Type 0) → Ends s r failed
    → OnTold a (λ t. OnTold b (λ files. IsAnswer words t.now files s))
    → OnTold a (λ t. OnTold b (λ files. (answer : Status) → IsPlainAnswer answer → IsAnswer words t.now files answer → IsAnswerOrFault answer r))
stopped_only a b words s r failed e answer =
    both_weaker a b (λ t files. IsAnswer words t.now files s) (λ t files. (answer : Status) → IsPlainAnswer answer → IsAnswer words t.now files answer → IsAnswerOrFault answer r) answer
    (λ t files h. only_answer words t.now files r (ends_answer words t.now files s r failed e h))

pub stopped_stays : (a c : Option Told) (b : Option Files) (words : List (List ℕ)) (W F S : Type 0) (G : Status → Type 0) (failed : Type 0) (s r : Status) → Stops W F S G s → Ends s r failed
    → Step a c (λ t u. u.now ≡ t.now)
    → Step a c (λ t u. OnTold b (λ files. Leaves words t.now files r u.now))
stopped_stays a c b words W F S G failed s r h e stays =
    step_weaker a c (λ t u. u.now ≡ t.now) (λ t u. OnTold b (λ files. Leaves words t.now files r u.now)) stays
    (λ t u same. on_told_all b (λ files. Leaves words t.now files r u.now) (λ files. stopped_leaves W F S G failed s r h e words t.now u.now files same))

pub stopped_printed : (a : Option Told) (b : Option Files) (o p : Option (List ℕ)) (words : List (List ℕ)) (W F S : Type 0) (G : Status → Type 0) (failed : Type 0) (s r : Status) → Stops W F S G s → Ends s r failed
    → OnTold a (λ t. OnTold b (λ files. IsAnswer words t.now files s))
    → Step o p (Adds (WritesRefusal failed s r))
    → Step o p (λ before now. OnTold a (λ t. OnTold b (λ files. Adds (Prints failed words t.now files r) before now)))
stopped_printed a b o p words W F S G failed s r h e answer prints =
    step_weaker o p (Adds (WritesRefusal failed s r)) (λ before now. OnTold a (λ t. OnTold b (λ files. Adds (Prints failed words t.now files r) before now))) prints
    (λ before now adds. both_weaker a b (λ t files. IsAnswer words t.now files s) (λ t files. Adds (Prints failed words t.now files r) before now) answer
    (λ t files is. (adds.0, stopped_prints words t.now files W F S G failed s r adds.0 is h e adds.1, adds.2)))

-- ---- the plan was performed, or performing it gave up

pub done_only : (a : Option Told) (b : Option Files) (words : List (List ℕ)) (profile : List ℕ) (unit : Unit)
    → OnTold a (λ t. OnTold b (λ files. Installs words t.now files profile unit))
    → OnTold a (λ t. OnTold b (λ files. (answer : Status) → IsPlainAnswer answer → IsAnswer words t.now files answer → IsAnswerOrFault answer Done))
done_only a b words profile unit found =
    both_weaker a b (λ t files. Installs words t.now files profile unit) (λ t files. (answer : Status) → IsPlainAnswer answer → IsAnswer words t.now files answer → IsAnswerOrFault answer Done) found
    (λ t files i. only_answer words t.now files Done (profile, unit, i))

pub failed_printed : (a : Option Told) (b : Option Files) (o p q : Option (List ℕ)) (words : List (List ℕ)) (profile : List ℕ) (unit : Unit) (F K failed L : Type 0) (s r : Status) → (failed → L) → Fails F K s → Ends s r failed
    → OnTold a (λ t. OnTold b (λ files. Installs words t.now files profile unit))
    → Step o p (Adds (PrintsFailed profile unit s))
    → Step p q (Adds (WritesRefusal failed s r))
    → Step o q (λ before now. OnTold a (λ t. OnTold b (λ files. Adds (Prints L words t.now files r) before now)))
failed_printed a b o p q words profile unit F K failed L s r later h e found first second =
    step_then o p q (Adds (PrintsFailed profile unit s)) (Adds (WritesRefusal failed s r)) (λ before now. OnTold a (λ t. OnTold b (λ files. Adds (Prints L words t.now files r) before now))) first second
    (λ before mid now f g. both_weaker a b (λ t files. Installs words t.now files profile unit) (λ t files. Adds (Prints L words t.now files r) before now) found
    (λ t files i. (
      f.0 ++ g.0,
      failed_prints words t.now files profile unit F K failed L s r f.0 g.0 later i h e f.1 g.1,
      g.2 ∙ (ap (λ (x : List ℕ). x ++ g.0) f.2 ∙ append_assoc before f.0 g.0),
    )))
