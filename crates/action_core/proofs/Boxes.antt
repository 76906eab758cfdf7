-- How lists of boxes go on.
use Rattle.std.proofs.Common.{◌≡◌, ℕ, Bool, cond, List, [], ◌∷◌, ◌++◌, map, refl, sym, ◌∙◌, ap, append-nil, append_assoc, ◌+◌}
use Rattle.std.specs.List.{filter, count_by}
use Rattle.std.proofs.lemmas.Bool.{cases_Bool}
use Rattle.std.proofs.lemmas.List.Sums.{sum_by-cons}
use Rattle.std.proofs.lemmas.List.Elements.{All-nil, All-cons, All-head, All-tail, All-weaker}
use Rattle.std.proofs.Common.{inl, inr}
use Rattle.instr_parser.specs.declared.call.ActionKind.{ActionKind}
use Rattle.backup_store.specs.declared.entry.EntryNumber.{EntryNumber}
use Rattle.action_core.specs.Seen.{Seen, Credit, credited, credited_one, rested, tickets_of, is_of, is_kind, without_tickets, IsAtRest, AreAtRest, HasOne, HaveOneOfEach}

pub credited-none : (boxes : List Seen) → credited [] boxes ≡ boxes
credited-none [] = refl
credited-none (seen ∷ boxes) =
    ap (λ (tickets : List EntryNumber). (let s : Seen = record { kind = seen.kind; tickets = tickets } in s) ∷ credited [] boxes) (append-nil seen.tickets)
    ∙ ap (λ (l : List Seen). seen ∷ l) (credited-none boxes)

tickets_of-append : (kind : ActionKind) (first second : List Credit) → tickets_of kind (first ++ second) ≡ tickets_of kind first ++ tickets_of kind second
tickets_of-append kind [] second = refl
tickets_of-append kind (credit ∷ first) second = elim (cases_Bool (is_of kind credit)) [
  | inl of ↦
      ap (λ (b : Bool). map (λ (c : Credit). c.ticket) (cond b (credit ∷ filter (is_of kind) (first ++ second)) (filter (is_of kind) (first ++ second)))) of
      ∙ ap (λ (l : List EntryNumber). credit.ticket ∷ l) (tickets_of-append kind first second)
      ∙ sym (ap (λ (b : Bool). map (λ (c : Credit). c.ticket) (cond b (credit ∷ filter (is_of kind) first) (filter (is_of kind) first)) ++ tickets_of kind second) of)
  | inr other ↦
      ap (λ (b : Bool). map (λ (c : Credit). c.ticket) (cond b (credit ∷ filter (is_of kind) (first ++ second)) (filter (is_of kind) (first ++ second)))) other
      ∙ tickets_of-append kind first second
      ∙ sym (ap (λ (b : Bool). map (λ (c : Credit). c.ticket) (cond b (credit ∷ filter (is_of kind) first) (filter (is_of kind) first)) ++ tickets_of kind second) other)
]

-- Some credits, and then more, are all of them.
pub credited-append : (first second : List Credit) (boxes : List Seen) → credited (first ++ second) boxes ≡ credited second (credited first boxes)
credited-append first second [] = refl
credited-append first second (seen ∷ boxes) =
    ap (λ (tickets : List EntryNumber). (let s : Seen = record { kind = seen.kind; tickets = tickets } in s) ∷ credited (first ++ second) boxes)
    (ap (λ (l : List EntryNumber). seen.tickets ++ l) (tickets_of-append seen.kind first second)
    ∙ sym (append_assoc seen.tickets (tickets_of seen.kind first) (tickets_of seen.kind second)))
    ∙ ap (λ (l : List Seen). credited_one second (credited_one first seen) ∷ l) (credited-append first second boxes)

pub at_rest-rested : (boxes : List Seen) → AreAtRest (rested boxes)
at_rest-rested [] = All-nil IsAtRest
at_rest-rested (seen ∷ boxes) = All-cons IsAtRest (without_tickets seen) (rested boxes) refl (at_rest-rested boxes)

pub rested-at_rest : (boxes : List Seen) → AreAtRest boxes → rested boxes ≡ boxes
rested-at_rest [] rest = refl
rested-at_rest (seen ∷ boxes) rest =
    ap (λ (tickets : List EntryNumber). (let s : Seen = record { kind = seen.kind; tickets = tickets } in s) ∷ rested boxes) (sym (All-head IsAtRest seen boxes rest))
    ∙ ap (λ (l : List Seen). seen ∷ l) (rested-at_rest boxes (All-tail IsAtRest seen boxes rest))

-- Tickets come and go, and the boxes at rest stay the same.
pub rested-credited : (credits : List Credit) (boxes : List Seen) → rested (credited credits boxes) ≡ rested boxes
rested-credited credits [] = refl
rested-credited credits (seen ∷ boxes) = ap (λ (l : List Seen). without_tickets seen ∷ l) (rested-credited credits boxes)

pub rested-rested : (boxes : List Seen) → rested (rested boxes) ≡ rested boxes
rested-rested [] = refl
rested-rested (seen ∷ boxes) = ap (λ (l : List Seen). without_tickets seen ∷ l) (rested-rested boxes)

-- Their kinds alone say which kinds there are one of.
abbrev count : ActionKind → Seen → ℕ
count kind seen = cond (is_kind kind seen) 1 0

count-rested : (kind : ActionKind) (boxes : List Seen) → count_by (is_kind kind) (rested boxes) ≡ count_by (is_kind kind) boxes
count-rested kind [] = refl
count-rested kind (seen ∷ boxes) =
    sum_by-cons (count kind) (without_tickets seen) (rested boxes) ∙ ap (λ (n : ℕ). count kind seen + n) (count-rested kind boxes) ∙ sym (sum_by-cons (count kind) seen boxes)

pub same_kinds : (old new : List Seen) → rested new ≡ rested old → (kind : ActionKind) → HasOne old kind → HasOne new kind
same_kinds old new same kind one =
    sym (count-rested kind new) ∙ ap (count_by (is_kind kind)) same ∙ count-rested kind old ∙ one

pub one_of_each : (kinds : List ActionKind) (old new : List Seen) → rested new ≡ rested old → HaveOneOfEach kinds old → HaveOneOfEach kinds new
one_of_each kinds old new same each = All-weaker (HasOne old) (HasOne new) (same_kinds old new same) kinds each
