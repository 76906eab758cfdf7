-- What an action shows of itself. The layers above speak of a list of boxes as a list of this.
use Rattle.std.specs.Prelude.{◌≡◌, ℕ, ◌==◌, Bool, List, [], ◌++◌, ◌∷◌, All, count_by, filter, map}
use Rattle.instr_parser.specs.declared.call.ActionKind.{ActionKind}
use Rattle.backup_store.specs.declared.entry.EntryNumber.{EntryNumber}

-- Its kind, and its tickets: the numbers of the entries that were kept for its calls, the newest last.
pub record Seen : Type 0 where
  pub kind : ActionKind
  pub tickets : List EntryNumber

-- an action of this kind without tickets
abbrev pub resting : ℕ → Seen
resting kind = record { kind = record { 0 = kind }; tickets = [] }

abbrev pub with_tickets : Seen → List EntryNumber → Seen
with_tickets seen tickets = record { kind = seen.kind; tickets = seen.tickets ++ tickets }

abbrev pub with_ticket : Seen → EntryNumber → Seen
with_ticket seen ticket = with_tickets seen (ticket ∷ [])

abbrev pub without_tickets : Seen → Seen
without_tickets seen = record { kind = seen.kind; tickets = [] }

-- an entry, and the kind of the call that it was kept for
pub record Credit : Type 0 where
  pub kind : ActionKind
  pub ticket : EntryNumber

abbrev pub is_of : ActionKind → Credit → Bool
is_of kind credit = credit.kind.0 == kind.0

-- the tickets of those that are of one kind, in their order
abbrev pub tickets_of : ActionKind → List Credit → List EntryNumber
tickets_of kind credits = map (λ credit. credit.ticket) (filter (is_of kind) credits)

abbrev pub credited_one : List Credit → Seen → Seen
credited_one credits seen = with_tickets seen (tickets_of seen.kind credits)

-- the boxes, each with the tickets of its kind behind its own
abbrev pub credited : List Credit → List Seen → List Seen
credited credits boxes = map (credited_one credits) boxes

-- the same kinds of box in their order, without tickets
abbrev pub rested : List Seen → List Seen
rested boxes = map without_tickets boxes

abbrev pub IsAtRest : Seen → Type 0
IsAtRest seen = seen.tickets ≡ []

abbrev pub AreAtRest : List Seen → Type 0
AreAtRest boxes = All IsAtRest boxes

abbrev pub is_kind : ActionKind → Seen → Bool
is_kind kind seen = seen.kind.0 == kind.0

-- Exactly one of the boxes is of the kind.
abbrev pub HasOne : List Seen → ActionKind → Type 0
HasOne boxes kind = count_by (is_kind kind) boxes ≡ 1

abbrev pub HaveOneOfEach : List ActionKind → List Seen → Type 0
HaveOneOfEach kinds boxes = All (HasOne boxes) kinds
