-- What a command leaves where its plan could not be performed to its end, and why it was told so.
use Rattle.std.proofs.Common.{◌≡◌, ◌≤◌, ℕ, inl, inr, ⊎_elim, List, Option, Some, None, subst, arith}
use Rattle.folder_core.specs.Cause.{Rose}
use Rattle.folder_core.specs.Folder.{Told, Map}
use Rattle.folder_core.specs.Step.{OnTold, Step}
use Rattle.folder_core.specs.Tree.{Files}
use Rattle.folder_core.specs.declared.node.After.TheVariants.{Unchanged, Recover, Either}
use Rattle.unit_model.specs.declared.unit.Unit.{Unit}
use Rattle.director_words.specs.declared.status.Status.{Status}
use Rattle.director_core.specs.Answer.{Installs, Leaves}
use Rattle.director_core.specs.Causes.{EndHasCauses, HasCauses}
use Rattle.director_core.specs.Ends.{NoRequest, OwnCause, FailedSource, End, AtCommit, AtRefusal, AtFolderFault, AtMemoryFault, AtSinkFault, end_of}
use Rattle.director_core.specs.Performs.{Fails, LeavesFailed}
use Rattle.director_core.specs.Refuses.{Ends}
use Rattle.director_core.specs.Stops.{StopsAt, Stops}
use Rattle.director_core.proofs.Decisions.{stops_weaker}
use Rattle.director_core.proofs.Endings.{ended, failed_leaves}

-- the folder is told before the decision, after it and after the plan
pub failed_stays : (a c d : Option Told) (b : Option Files) (words : List (List ℕ)) (profile : List ℕ) (unit : Unit) (F K failed : Type 0) (s r : Status) → Fails F K s → Ends s r failed
    → OnTold a (λ t. OnTold b (λ files. Installs words t.now files profile unit))
    → Step a c (λ t u. u.now ≡ t.now)
    → Step c d (λ t u. LeavesFailed profile unit t.now s u.now)
    → Step a d (λ t u. OnTold b (λ files. Leaves words t.now files r u.now))
failed_stays None None None b words profile unit F K failed s r h e found same left = tt
failed_stays None None (Some v) b words profile unit F K failed s r h e found same left = absurd left
failed_stays None (Some u) d b words profile unit F K failed s r h e found same left = absurd same
failed_stays (Some t) None d b words profile unit F K failed s r h e found same left = absurd same
failed_stays (Some t) (Some u) None b words profile unit F K failed s r h e found same left = absurd left
failed_stays (Some t) (Some u) (Some v) None words profile unit F K failed s r h e found same left = tt
failed_stays (Some t) (Some u) (Some v) (Some files) words profile unit F K failed s r h e found same left =
    let P : Map → Type 0 = λ m. LeavesFailed profile unit m s v.now in
    failed_leaves words t.now files profile unit F K failed s r v.now found h e (subst P same left)

-- ---- why

-- a fault in a later part of a call is one of the call
pub rose_later : (a b c : ℕ) → a ≤ b → Rose b c → Rose a c
rose_later a b c le rose = ⊎_elim (λ up. inl (omega (arith, le, up))) (λ last. inr last) rose

-- A stage before the plan has the causes of its end.
stopped_causes_at : (end : End) (asked F S K G : Type 0) → StopsAt (asked → ⊥) (asked × F) (asked × S) G end → EndHasCauses F S K end
stopped_causes_at AtCommit asked F S K G h = absurd h
stopped_causes_at (AtRefusal NoRequest wording) asked F S K G h = tt
stopped_causes_at (AtRefusal OwnCause wording) asked F S K G h = tt
stopped_causes_at (AtRefusal FailedSource wording) asked F S K G h = h.1
stopped_causes_at (AtFolderFault Unchanged) asked F S K G h = h.1
stopped_causes_at (AtFolderFault Recover) asked F S K G h = absurd h
stopped_causes_at (AtFolderFault Either) asked F S K G h = absurd h
stopped_causes_at (AtMemoryFault Unchanged) asked F S K G h = tt
stopped_causes_at (AtMemoryFault Recover) asked F S K G h = absurd h
stopped_causes_at (AtMemoryFault Either) asked F S K G h = absurd h
stopped_causes_at (AtSinkFault committed) asked F S K G h = absurd h

pub stopped_causes : (asked F S K : Type 0) (G : Status → Type 0) (s r : Status) → Stops (asked → ⊥) (asked × F) (asked × S) G s → Ends s r K → HasCauses F S K r
stopped_causes asked F S K G s r h e = ended (HasCauses F S K) K s r e (stopped_causes_at (end_of s) asked F S K (G s) h) (λ k. k) tt

-- ---- the stages of a decision: the words asked for an install

pub folder_stopped : (asked F S : Type 0) (G : Status → Type 0) (s : Status) → asked → Stops ⊥ F ⊥ G s → Stops (asked → ⊥) (asked × F) (asked × S) (λ _. asked) s
folder_stopped asked F S G s is h = stops_weaker ⊥ F ⊥ G (asked → ⊥) (asked × F) (asked × S) (λ _. asked) (λ x. absurd x) (λ rose. (is, rose)) (λ x. absurd x) (λ _ _. is) s h

pub source_stopped : (asked F S : Type 0) (G : Status → Type 0) (s : Status) → asked → Stops ⊥ ⊥ S G s → Stops (asked → ⊥) (asked × F) (asked × S) (λ _. asked) s
source_stopped asked F S G s is h = stops_weaker ⊥ ⊥ S G (asked → ⊥) (asked × F) (asked × S) (λ _. asked) (λ x. absurd x) (λ x. absurd x) (λ rose. (is, rose)) (λ _ _. is) s h

pub stage_stopped : (asked F S : Type 0) (G : Status → Type 0) (s : Status) → asked → Stops ⊥ ⊥ ⊥ G s → Stops (asked → ⊥) (asked × F) (asked × S) (λ _. asked) s
stage_stopped asked F S G s is h = stops_weaker ⊥ ⊥ ⊥ G (asked → ⊥) (asked × F) (asked × S) (λ _. asked) (λ x. absurd x) (λ x. absurd x) (λ x. absurd x) (λ _ _. is) s h
