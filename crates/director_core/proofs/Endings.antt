-- How a command ends, from how its stages ended. Each law goes by the few ends, not by the statuses.
use Rattle.std.proofs.Common.{◌≡◌, ℕ, List, ◌++◌, Some, None, refl, sym, ap, ◌∙◌, subst, inl, inr, ⊎_elim}
use Rattle.std.proofs.lemmas.List.{append-nil}
use Rattle.folder_core.specs.Folder.{Map}
use Rattle.folder_core.specs.Tree.{Files}
use Rattle.folder_core.specs.declared.node.After.TheVariants.{Unchanged, Recover, Either}
use Rattle.unit_model.specs.declared.unit.Unit.{Unit}
use Rattle.director_words.specs.declared.status.Status.{Status}
use Rattle.director_words.specs.declared.status.Status.TheVariants.{SinkFault, NoMemory}
use Rattle.director_core.specs.Answer.{Installs, IsAnswerAt, IsAnswer, LeavesAt, Leaves}
use Rattle.director_core.specs.Durable.{OnCommittedEnd, OnCommitted}
use Rattle.director_core.specs.Ends.{Fixed, MadeUp, End, AtCommit, AtRefusal, AtFolderFault, AtMemoryFault, AtSinkFault, end_of}
use Rattle.director_core.specs.Performs.{FailsAt, Fails, LeavesFailedAt, LeavesFailed, PrintsFailedAt, PrintsFailed}
use Rattle.director_core.specs.Printed.{IsFront, IsFaultPrinted, plan_lines, refusal_lines, PrintsAt, Prints}
use Rattle.director_core.specs.Refuses.{EndsAt, Ends, WritesOrFails, WritesWithMemory, WritesRefusalAt, WritesRefusal}
use Rattle.director_core.specs.Stops.{StopsAt, Stops}

-- ---- how a status ends

-- What holds of a status holds of how the command ends with it, where it holds of a fault of the sink and of want of
-- memory.
ended_at : (end : End) (P : Status → Type 0) (failed : Type 0) (s r : Status) → EndsAt end s r failed → P s → (failed → P (SinkFault None)) → P (NoMemory Unchanged) → P r
ended_at AtCommit P failed s r e same sink memory = subst P (sym e) same
ended_at (AtRefusal reason Fixed) P failed s r e same sink memory =
    ⊎_elim (λ p. subst P (sym p) same) (λ p. subst P (sym p.0) (sink p.1)) e
ended_at (AtRefusal reason MadeUp) P failed s r e same sink memory =
    ⊎_elim (λ q. ⊎_elim (λ p. subst P (sym p) same) (λ p. subst P (sym p.0) (sink p.1)) q) (λ p. subst P (sym p) memory) e
ended_at (AtFolderFault left) P failed s r e same sink memory = subst P (sym e) same
ended_at (AtMemoryFault left) P failed s r e same sink memory = subst P (sym e) same
ended_at (AtSinkFault committed) P failed s r e same sink memory = subst P (sym e) same

pub ended : (P : Status → Type 0) (failed : Type 0) (s r : Status) → Ends s r failed → P s → (failed → P (SinkFault None)) → P (NoMemory Unchanged) → P r
ended P failed s r e same sink memory = ended_at (end_of s) P failed s r e same sink memory

-- Where performing the plan failed, the status stays.
stays_at : (end : End) (F K failed : Type 0) (s r : Status) → FailsAt F K end → EndsAt end s r failed → r ≡ s
stays_at AtCommit F K failed s r h e = absurd h
stays_at (AtRefusal reason wording) F K failed s r h e = absurd h
stays_at (AtFolderFault left) F K failed s r h e = e
stays_at (AtMemoryFault left) F K failed s r h e = e
stays_at (AtSinkFault committed) F K failed s r h e = e

pub failed_stays_so : (P : Status → Type 0) (F K failed : Type 0) (s r : Status) → Fails F K s → Ends s r failed → P s → P r
failed_stays_so P F K failed s r h e same = subst P (sym (stays_at (end_of s) F K failed s r h e)) same

-- ---- the answer

pub ends_answer : (words : List (List ℕ)) (m : Map) (files : Files) (s r : Status) (failed : Type 0) → Ends s r failed → IsAnswer words m files s → IsAnswer words m files r
ends_answer words m files s r failed e a = ended (IsAnswer words m files) failed s r e a (λ k. tt) tt

-- a plan that could not be performed to its end
failed_answer_at : (end : End) (words : List (List ℕ)) (m : Map) (files : Files) (profile : List ℕ) (unit : Unit) (F K : Type 0) (s : Status) → Installs words m files profile unit → FailsAt F K end → IsAnswerAt words m files s end
failed_answer_at AtCommit words m files profile unit F K s i h = absurd h
failed_answer_at (AtRefusal reason wording) words m files profile unit F K s i h = absurd h
failed_answer_at (AtFolderFault Unchanged) words m files profile unit F K s i h = absurd h
failed_answer_at (AtFolderFault Recover) words m files profile unit F K s i h = (profile, unit, i)
failed_answer_at (AtFolderFault Either) words m files profile unit F K s i h = absurd h
failed_answer_at (AtMemoryFault Unchanged) words m files profile unit F K s i h = tt
failed_answer_at (AtMemoryFault Recover) words m files profile unit F K s i h = (profile, unit, i)
failed_answer_at (AtMemoryFault Either) words m files profile unit F K s i h = absurd h
failed_answer_at (AtSinkFault None) words m files profile unit F K s i h = tt
failed_answer_at (AtSinkFault (Some number)) words m files profile unit F K s i h = (h.0, (profile, unit, i))

pub failed_answer : (words : List (List ℕ)) (m : Map) (files : Files) (profile : List ℕ) (unit : Unit) (F K : Type 0) (s : Status) → Installs words m files profile unit → Fails F K s → IsAnswer words m files s
failed_answer words m files profile unit F K s i h = failed_answer_at (end_of s) words m files profile unit F K s i h

-- ---- what is left

-- A stage before the plan leaves the folder as it was.
unchanged_at : (end : End) (W F S G : Type 0) → StopsAt W F S G end → (words : List (List ℕ)) (old new : Map) (files : Files) → new ≡ old → LeavesAt words old files end new
unchanged_at AtCommit W F S G h words old new files same = absurd h
unchanged_at (AtRefusal reason wording) W F S G h words old new files same = same
unchanged_at (AtFolderFault Unchanged) W F S G h words old new files same = same
unchanged_at (AtFolderFault Recover) W F S G h words old new files same = absurd h
unchanged_at (AtFolderFault Either) W F S G h words old new files same = absurd h
unchanged_at (AtMemoryFault Unchanged) W F S G h words old new files same = same
unchanged_at (AtMemoryFault Recover) W F S G h words old new files same = absurd h
unchanged_at (AtMemoryFault Either) W F S G h words old new files same = absurd h
unchanged_at (AtSinkFault committed) W F S G h words old new files same = absurd h

pub stopped_leaves : (W F S : Type 0) (G : Status → Type 0) (failed : Type 0) (s r : Status) → Stops W F S G s → Ends s r failed → (words : List (List ℕ)) (old new : Map) (files : Files) → new ≡ old → Leaves words old files r new
stopped_leaves W F S G failed s r h e words old new files same =
    ended (λ x. Leaves words old files x new) failed s r e (unchanged_at (end_of s) W F S (G s) h words old new files same) (λ k. same) same

failed_leaves_at : (end : End) (words : List (List ℕ)) (m : Map) (files : Files) (profile : List ℕ) (unit : Unit) (F K : Type 0) (new : Map) → Installs words m files profile unit → FailsAt F K end → LeavesFailedAt profile unit m end new → LeavesAt words m files end new
failed_leaves_at AtCommit words m files profile unit F K new i h l = absurd h
failed_leaves_at (AtRefusal reason wording) words m files profile unit F K new i h l = absurd h
failed_leaves_at (AtFolderFault Unchanged) words m files profile unit F K new i h l = absurd h
failed_leaves_at (AtFolderFault Recover) words m files profile unit F K new i h l = (profile, unit, i, l)
failed_leaves_at (AtFolderFault Either) words m files profile unit F K new i h l = absurd h
failed_leaves_at (AtMemoryFault Unchanged) words m files profile unit F K new i h l = l
failed_leaves_at (AtMemoryFault Recover) words m files profile unit F K new i h l = (profile, unit, i, l)
failed_leaves_at (AtMemoryFault Either) words m files profile unit F K new i h l = absurd h
failed_leaves_at (AtSinkFault None) words m files profile unit F K new i h l = l
failed_leaves_at (AtSinkFault (Some number)) words m files profile unit F K new i h l = (profile, unit, i, l)

pub failed_leaves : (words : List (List ℕ)) (m : Map) (files : Files) (profile : List ℕ) (unit : Unit) (F K failed : Type 0) (s r : Status) (new : Map) → Installs words m files profile unit → Fails F K s → Ends s r failed → LeavesFailed profile unit m s new → Leaves words m files r new
failed_leaves words m files profile unit F K failed s r new i h e l =
    failed_stays_so (λ x. Leaves words m files x new) F K failed s r h e (failed_leaves_at (end_of s) words m files profile unit F K new i h l)

-- ---- what is printed

-- a fault's line, where the sink failed in the whole call if it failed on the line
fault_later : (K L : Type 0) (s : Status) (line : List ℕ) → (K → L) → IsFaultPrinted K s line → IsFaultPrinted L s line
fault_later K L s line later w = ⊎_elim (λ p. inl p) (λ p. inr (later p.0, p.1)) w

written_or_failed : (K : Type 0) (words : List (List ℕ)) (m : Map) (files : Files) (s r : Status) (lines : List ℕ) → IsAnswer words m files s → (lines ≡ refusal_lines s → Prints K words m files s lines) → WritesOrFails s r lines → Prints K words m files r lines
written_or_failed K words m files s r lines a whole w =
    let P : Status → Type 0 = λ x. Prints K words m files x lines in
    ⊎_elim (λ p. subst P (sym p.0) (whole p.1)) (λ p. subst P (sym p.0) (inl (s, a, p.1))) w

written_with_memory : (K : Type 0) (words : List (List ℕ)) (m : Map) (files : Files) (s r : Status) (lines : List ℕ) → IsAnswer words m files s → (lines ≡ refusal_lines s → Prints K words m files s lines) → WritesWithMemory K s r lines → Prints K words m files r lines
written_with_memory K words m files s r lines a whole w =
    let P : Status → Type 0 = λ x. Prints K words m files x lines in
    ⊎_elim (λ q. written_or_failed K words m files s r lines a whole q) (λ p. subst P (sym p.0) (inl p.1)) w

-- What is written of an end that is that of the status is what is printed with it.
stopped_prints_at : (end : End) (words : List (List ℕ)) (m : Map) (files : Files) (W F S G failed : Type 0) (s r : Status) (lines : List ℕ) → (PrintsAt failed words m files s end lines → Prints failed words m files s lines) → IsAnswer words m files s → StopsAt W F S G end → EndsAt end s r failed → WritesRefusalAt failed end s r lines → Prints failed words m files r lines
stopped_prints_at AtCommit words m files W F S G failed s r lines own a h e w = absurd h
stopped_prints_at (AtRefusal reason Fixed) words m files W F S G failed s r lines own a h e w = written_or_failed failed words m files s r lines a own w
stopped_prints_at (AtRefusal reason MadeUp) words m files W F S G failed s r lines own a h e w = written_with_memory failed words m files s r lines a own w
stopped_prints_at (AtFolderFault Unchanged) words m files W F S G failed s r lines own a h e w =
    let P : Status → Type 0 = λ x. Prints failed words m files x lines in subst P (sym e) (own w)
stopped_prints_at (AtFolderFault Recover) words m files W F S G failed s r lines own a h e w = absurd h
stopped_prints_at (AtFolderFault Either) words m files W F S G failed s r lines own a h e w = absurd h
stopped_prints_at (AtMemoryFault Unchanged) words m files W F S G failed s r lines own a h e w =
    let P : Status → Type 0 = λ x. Prints failed words m files x lines in subst P (sym e) (own (inl w))
stopped_prints_at (AtMemoryFault Recover) words m files W F S G failed s r lines own a h e w = absurd h
stopped_prints_at (AtMemoryFault Either) words m files W F S G failed s r lines own a h e w = absurd h
stopped_prints_at (AtSinkFault committed) words m files W F S G failed s r lines own a h e w = absurd h

pub stopped_prints : (words : List (List ℕ)) (m : Map) (files : Files) (W F S : Type 0) (G : Status → Type 0) (failed : Type 0) (s r : Status) (lines : List ℕ) → IsAnswer words m files s → Stops W F S G s → Ends s r failed → WritesRefusal failed s r lines → Prints failed words m files r lines
stopped_prints words m files W F S G failed s r lines a h e w =
    stopped_prints_at (end_of s) words m files W F S (G s) failed s r lines (λ x. x) a h e w

-- the plan, and behind it what was written of the status
failed_prints_at : (end : End) (words : List (List ℕ)) (m : Map) (files : Files) (profile : List ℕ) (unit : Unit) (F K failed L : Type 0) (s r : Status) (lines more : List ℕ) → (failed → L) → Installs words m files profile unit → FailsAt F K end → PrintsFailedAt profile unit end lines → WritesRefusalAt failed end s r more → PrintsAt L words m files s end (lines ++ more)
failed_prints_at AtCommit words m files profile unit F K failed L s r lines more later i h p w = absurd h
failed_prints_at (AtRefusal reason wording) words m files profile unit F K failed L s r lines more later i h p w = absurd h
failed_prints_at (AtFolderFault Unchanged) words m files profile unit F K failed L s r lines more later i h p w = absurd h
failed_prints_at (AtFolderFault Recover) words m files profile unit F K failed L s r lines more later i h p w =
    (lines, more, (profile, unit, i, p), fault_later failed L s more later w, refl)
failed_prints_at (AtFolderFault Either) words m files profile unit F K failed L s r lines more later i h p w = absurd h
failed_prints_at (AtMemoryFault Unchanged) words m files profile unit F K failed L s r lines more later i h p w =
    let Q : List ℕ → Type 0 = λ x. IsFaultPrinted L s (x ++ more) in
    let line : IsFaultPrinted L s more = fault_later failed L s more later w in
    ⊎_elim (λ x. inl (subst Q (sym x) line)) (λ x. inr (lines, more, (profile, unit, i, x), line, refl)) p
failed_prints_at (AtMemoryFault Recover) words m files profile unit F K failed L s r lines more later i h p w =
    (lines, more, (profile, unit, i, p), fault_later failed L s more later w, refl)
failed_prints_at (AtMemoryFault Either) words m files profile unit F K failed L s r lines more later i h p w = absurd h
failed_prints_at (AtSinkFault None) words m files profile unit F K failed L s r lines more later i h p w =
    let all : lines ++ more ≡ lines = ap (λ (x : List ℕ). lines ++ x) w ∙ append-nil lines in
    let Q : List ℕ → Type 0 = λ x. IsFront x (plan_lines profile unit) in
    inr (profile, unit, i, subst Q (sym all) p)
failed_prints_at (AtSinkFault (Some number)) words m files profile unit F K failed L s r lines more later i h p w =
    let all : lines ++ more ≡ lines = ap (λ (x : List ℕ). lines ++ x) w ∙ append-nil lines in
    (profile, unit, p.0, i, p.1, all ∙ p.2)

pub failed_prints : (words : List (List ℕ)) (m : Map) (files : Files) (profile : List ℕ) (unit : Unit) (F K failed L : Type 0) (s r : Status) (lines more : List ℕ) → (failed → L) → Installs words m files profile unit → Fails F K s → Ends s r failed → PrintsFailed profile unit s lines → WritesRefusal failed s r more → Prints L words m files r (lines ++ more)
failed_prints words m files profile unit F K failed L s r lines more later i h e p w =
    failed_stays_so (λ x. Prints L words m files x (lines ++ more)) F K failed s r h e (failed_prints_at (end_of s) words m files profile unit F K failed L s r lines more later i h p w)

-- ---- what is committed

uncommitted_at : (end : End) (W F S G P : Type 0) → StopsAt W F S G end → OnCommittedEnd end P
uncommitted_at AtCommit W F S G P h = absurd h
uncommitted_at (AtRefusal reason wording) W F S G P h = tt
uncommitted_at (AtFolderFault left) W F S G P h = tt
uncommitted_at (AtMemoryFault left) W F S G P h = tt
uncommitted_at (AtSinkFault committed) W F S G P h = absurd h

pub stopped_uncommitted : (W F S : Type 0) (G : Status → Type 0) (failed P : Type 0) (s r : Status) → Stops W F S G s → Ends s r failed → OnCommitted r P
stopped_uncommitted W F S G failed P s r h e =
    ended (λ x. OnCommitted x P) failed s r e (uncommitted_at (end_of s) W F S (G s) P h) (λ k. tt) tt

pub failed_committed : (F K failed P : Type 0) (s r : Status) → Fails F K s → Ends s r failed → OnCommitted s P → OnCommitted r P
failed_committed F K failed P s r h e c = failed_stays_so (λ x. OnCommitted x P) F K failed s r h e c
