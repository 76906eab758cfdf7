-- What is held for an action.
use Rattle.std.specs.Prelude.{ℕ, ◌-◌, List, vec_len, vec_capacity}
use Rattle.backup_store.specs.declared.entry.EntryNumber.{EntryNumber}
use Rattle.action_core.specs.Seen.{Seen}
use Rattle.action_core.specs.declared.tickets.Tickets.{Tickets}

-- the newest last
abbrev pub tickets_in : Tickets → List EntryNumber
tickets_in tickets = tickets.held.items

-- how many more are sure to find room
abbrev pub spare_in : Tickets → ℕ
spare_in tickets = vec_capacity tickets.held - vec_len tickets.held

abbrev pub seen_with : ℕ → Tickets → Seen
seen_with kind tickets = record { kind = record { 0 = kind }; tickets = tickets_in tickets }
