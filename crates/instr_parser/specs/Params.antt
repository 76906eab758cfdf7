-- The parameters of a call.
use Rattle.std.specs.Prelude.{ℕ, ◌==◌, ◌&&◌, not, nat_lt, Bool, List, [], ◌∷◌, Option, Some, None, unwrap_or, Result, Ok, Err, if◌then◌else◌}
use Rattle.std.specs.List.{list_any, find}
use Rattle.case_table.specs.Rows.{name_of}
use Rattle.instr_text.specs.declared.fault.InstrRefusal.{InstrRefusal}
use Rattle.instr_text.specs.declared.fault.InstrRefusal.TheVariants.{MissingParam, UnknownParam, RepeatedParam, BadParam, OutsideFolder, BadPath}
use Rattle.instr_text.specs.Gives.{◌>>=◌}
use Rattle.instr_text.specs.Piece.{Part}
use Rattle.instr_parser.specs.declared.call.Call.{Call}
use Rattle.instr_parser.specs.declared.call.Param.{Param}
use Rattle.instr_parser.specs.declared.call.Value.{Value}
use Rattle.instr_parser.specs.declared.form.Fault.{Fault}
use Rattle.instr_parser.specs.declared.form.Fault.TheVariants as fault
use Rattle.instr_parser.specs.declared.form.Form.{Form}
use Rattle.instr_parser.specs.declared.form.Slot.{Slot}
use Rattle.instr_parser.specs.Opened.{opened}
use Rattle.instr_parser.specs.Slots.{slots, slot_named}
use Rattle.instr_parser.specs.Tables.{params}
use Rattle.instr_parser.specs.Value.{formed}

abbrev pub is_given : ℕ → List Param → Bool
is_given code given = list_any (λ param. param.code == code) given

-- the parameters, in the order of their codes, with one more
abbrev pub inserted : Param → List Param → List Param
inserted param [] = param ∷ []
inserted param (first ∷ given) = if nat_lt first.code param.code then first ∷ inserted param given else param ∷ first ∷ given

-- The refusal of a value names its key.
abbrev pub refusal_of : Fault → List ℕ → InstrRefusal
refusal_of fault.Outside key = OutsideFolder key
refusal_of fault.Path key = BadPath key
refusal_of fault.Form key = BadParam key

abbrev pub value_or_refusal : List ℕ → Result Value Fault → Result Value InstrRefusal
value_or_refusal key (Ok value) = Ok value
value_or_refusal key (Err fault) = Err (refusal_of fault key)

unfoldable pub value_at : Form → Part → Result Value InstrRefusal
value_at form part = opened part.1 >>= λ value. value_or_refusal part.0 (formed form value)

abbrev pub free_slot : List Param → List ℕ → Option Slot → Result Slot InstrRefusal
free_slot given key None = Err (UnknownParam key)
free_slot given key (Some slot) = if is_given slot.code given then Err (RepeatedParam key) else Ok slot

-- what the action takes under this key, behind what is given
unfoldable pub slot_for : ℕ → List Param → List ℕ → Result Slot InstrRefusal
slot_for kind given key = free_slot given key (slot_named kind key)

unfoldable pub param_at : ℕ → List Param → Part → Result Param InstrRefusal
param_at kind given part =
    slot_for kind given part.0 >>= λ slot. value_at slot.form part >>= λ value. Ok (record { code = slot.code; value = value })

-- the parameters that are given, and those of the parts behind them
unfoldable pub params_from : ℕ → List Param → List Part → Result (List Param) InstrRefusal
params_from kind given [] = Ok given
params_from kind given (part ∷ parts) = param_at kind given part >>= λ param. params_from kind (inserted param given) parts

abbrev pub params_of : ℕ → List Part → Result (List Param) InstrRefusal
params_of kind parts = params_from kind [] parts

-- The parameter is needed and not given.
abbrev pub is_missing : List Param → Slot → Bool
is_missing given slot = slot.is_needed && not (is_given slot.code given)

unfoldable pub missing_param : ℕ → InstrRefusal
missing_param code = MissingParam (unwrap_or (name_of params code) [])

abbrev pub call_unless : ℕ → List Param → Option Slot → Result Call InstrRefusal
call_unless kind given None = Ok (record { kind = record { 0 = kind }; params = given })
call_unless kind given (Some slot) = Err (missing_param slot.code)

-- the call, or the refusal that names the first in the table's order of those that are missing
unfoldable pub completed : ℕ → List Param → Result Call InstrRefusal
completed kind given = call_unless kind given (find (is_missing given) (slots kind))

-- the call of an action with these parameters
unfoldable pub call_with : ℕ → List Part → Result Call InstrRefusal
call_with kind parts = params_of kind parts >>= λ given. completed kind given
