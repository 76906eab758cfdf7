-- The calls of a text are calls as an action takes them.
use Rattle.std.proofs.Common.{◌≡◌, ℕ, ◌+◌, ◌≤◌, Bool, true, false, cond, List, [], ◌∷◌, ◌++◌, length, map, Option, Some, None, Result, Ok, Err, refl, sym, ◌∙◌, ap, subst, arith}
use Rattle.std.specs.Prelude.{All, IfOk, ◌==◌, option_and_then, option_to_list}
use Rattle.std.specs.List.{find}
use Rattle.std.proofs.lemmas.List.Elements.{All-nil, All-cons, All-append}
use Rattle.case_table.specs.Rows.{code_of}
use Rattle.instr_text.specs.declared.fault.InstrRefusal.{InstrRefusal}
use Rattle.instr_text.specs.declared.fault.InstrRefusal.TheVariants.{RepeatedParam}
use Rattle.instr_text.specs.Cut.{is_empty, trimmed}
use Rattle.instr_text.specs.Gives.{◌>>=◌, Gives}
use Rattle.instr_text.specs.Piece.{Part, Piece, piece_of}
use Rattle.instr_parser.specs.declared.call.Call.{Call}
use Rattle.instr_parser.specs.declared.call.Param.{Param}
use Rattle.instr_parser.specs.declared.call.Value.{Value}
use Rattle.instr_parser.specs.declared.form.Fault.{Fault}
use Rattle.instr_parser.specs.declared.form.Form.{Form}
use Rattle.instr_parser.specs.declared.form.Slot.{Slot}
use Rattle.instr_parser.specs.Calls.{call_of, call_or_place, call_at, piece_call, calls_from}
use Rattle.instr_parser.specs.Given.{Slot as WantedSlot, HasForm, Fill, IsCall, slots_of}
use Rattle.instr_parser.specs.Naming.{kind_of}
use Rattle.instr_parser.specs.Opened.{Opened, opened}
use Rattle.instr_parser.specs.Params.{is_given, is_missing, inserted, value_or_refusal, value_at, free_slot, slot_for, param_at, params_from, call_unless, completed, call_with}
use Rattle.instr_parser.specs.Slots.{slots, slot_named}
use Rattle.instr_parser.specs.Tables.{params}
use Rattle.instr_parser.specs.Value.{formed}
use Rattle.instr_parser.proofs.GivenForms.{wanted, formed_has_form}
use Rattle.instr_parser.proofs.GivenParams.{wanted_slot, ParamsRise, SlotsRise, HasSlot, HaveSlots, found_code, fills, all_given, inserted_rise, inserted_have}

-- what a reading that goes on has read first
came_from : {A B : Type 0} (read : Result A InstrRefusal) (on : A → Result B InstrRefusal) (y : B) → (read >>= on) ≡ Ok y → (x : A) × (read ≡ Ok x) × (on x ≡ Ok y)
came_from (Ok x) on y is = (x, refl, is)
came_from (Err refusal) on y never = absurd (let no : ⊥ = cc in no)

either_rises : (b : Bool) (x y : List Slot) → SlotsRise 0 x → SlotsRise 0 y → SlotsRise 0 (cond b x y)
either_rises true x y x_rises y_rises = x_rises
either_rises false x y x_rises y_rises = y_rises

slots_rise : (kind : ℕ) → SlotsRise 0 (slots kind)
unfolding slots
slots_rise kind =
    let one : 0 ≤ 0 = omega arith in
    let two : (0 ≤ 1) × (1 + 1 ≤ 2) = (omega arith, omega arith) in
    let three : (2 + 1 ≤ 3) × (0 ≤ 4) × (4 + 1 ≤ 5) × (5 + 1 ≤ 6) × (4 + 1 ≤ 7) × (7 + 1 ≤ 8) = (omega arith, omega arith, omega arith, omega arith, omega arith, omega arith) in
    either_rises (kind == 0) _ _ (one, tt)
    (either_rises (kind == 1) _ _ (one, tt)
    (either_rises (kind == 2) _ _ (one, tt)
    (either_rises (kind == 3) _ _ (two.0, (two.1, (three.0, tt)))
    (either_rises (kind == 4) _ _ (two.0, (two.1, tt))
    (either_rises (kind == 5) _ _ (three.1, (three.2, (three.3, tt))) (either_rises (kind == 6) _ _ (three.1, (three.4, (three.5, tt))) tt))))))

either_wanted : (b : Bool) (x y : List Slot) (v w : List WantedSlot) → map wanted_slot x ≡ v → map wanted_slot y ≡ w → map wanted_slot (cond b x y) ≡ cond b v w
either_wanted true x y v w x_is y_is = x_is
either_wanted false x y v w x_is y_is = y_is

-- The table of slots is the one that is wanted.
slots_wanted : (kind : ℕ) → map wanted_slot (slots kind) ≡ slots_of kind
unfolding slots
slots_wanted kind =
    either_wanted (kind == 0) _ _ _ _ refl
    (either_wanted (kind == 1) _ _ _ _ refl
    (either_wanted (kind == 2) _ _ _ _ refl
    (either_wanted (kind == 3) _ _ _ _ refl
    (either_wanted (kind == 4) _ _ _ _ refl (either_wanted (kind == 5) _ _ _ _ refl (either_wanted (kind == 6) _ _ _ _ refl refl))))))

value_formed : (key : List ℕ) (slot_form : Form) (o : Opened) (value : Value) → value_or_refusal key (formed slot_form o) ≡ Ok value → HasForm (wanted slot_form) value
value_formed key slot_form o value = by (formed slot_form o) refl
  where
    by : (read : Result Value Fault) → formed slot_form o ≡ read → value_or_refusal key read ≡ Ok value → HasForm (wanted slot_form) value
    by (Ok value') is same = let value_is : value' ≡ value = cc in formed_has_form slot_form o value (is ∙ ap Ok value_is)
    by (Err refusal) is never = absurd (let no : ⊥ = cc in no)

value_has_form : (slot_form : Form) (part : Part) (value : Value) → value_at slot_form part ≡ Ok value → HasForm (wanted slot_form) value
unfolding value_at
value_has_form slot_form part value is =
    let read = came_from (opened part.1) (λ o. value_or_refusal part.0 (formed slot_form o)) value is in
    value_formed part.0 slot_form read.0 value read.2

slot_is_taken : (given : List Param) (key : List ℕ) (o : Option Slot) (slot : Slot) → free_slot given key o ≡ Ok slot → (o ≡ Some slot) × (is_given slot.code given ≡ false)
slot_is_taken given key None slot never = absurd (let no : ⊥ = cc in no)
slot_is_taken given key (Some taken) slot is = by (is_given taken.code given) refl is
  where
    by : (b : Bool) → is_given taken.code given ≡ b → cond b (Err (RepeatedParam key)) (Ok taken) ≡ Ok slot → (Some taken ≡ Some slot) × (is_given slot.code given ≡ false)
    by true is_there never = absurd (let no : ⊥ = cc in no)
    by false free same = let it : taken ≡ slot = cc in (ap Some it, ap (λ (s : Slot). is_given s.code given) (sym it) ∙ free)

slot_is_found : (kind : ℕ) (key : List ℕ) (slot : Slot) → slot_named kind key ≡ Some slot → find (λ s. s.code == slot.code) (slots kind) ≡ Some slot
unfolding slot_named
slot_is_found kind key slot = by (code_of params key)
  where
    by : (o : Option ℕ) → option_and_then (λ code. find (λ s. s.code == code) (slots kind)) o ≡ Some slot → find (λ s. s.code == slot.code) (slots kind) ≡ Some slot
    by None never = absurd (let no : ⊥ = cc in no)
    by (Some code) is = subst (λ n. find (λ s. s.code == n) (slots kind) ≡ Some slot) (sym (found_code code (slots kind) slot is)) is

param_is_new : (kind : ℕ) (given : List Param) (part : Part) (param : Param) → param_at kind given part ≡ Ok param → HasSlot (slots kind) param × (is_given param.code given ≡ false)
unfolding param_at slot_for
param_is_new kind given part param is =
    let read = came_from (slot_for kind given part.0) (λ slot. value_at slot.form part >>= λ value. Ok (record { code = slot.code; value = value })) param is in
    let taken = slot_is_taken given part.0 (slot_named kind part.0) read.0 read.1 in
    let valued = came_from (value_at read.0.form part) (λ value. Ok (record { code = read.0.code; value = value })) param read.2 in
    let param_is : record { code = read.0.code; value = valued.0 } ≡ param = let same = valued.2 in cc in
    subst (λ p. HasSlot (slots kind) p × (is_given p.code given ≡ false)) param_is
    ((read.0, slot_is_found kind part.0 read.0 taken.0, value_has_form read.0.form part valued.0 valued.1), taken.1)

params_are_given : (kind : ℕ) (given : List Param) (parts : List Part) (all : List Param) → ParamsRise 0 given → HaveSlots (slots kind) given → params_from kind given parts ≡ Ok all → ParamsRise 0 all × HaveSlots (slots kind) all
unfolding params_from
params_are_given kind given [] all rise have is = let it : given ≡ all = cc in subst (λ ps. ParamsRise 0 ps × HaveSlots (slots kind) ps) it (rise, have)
params_are_given kind given (part ∷ parts) all rise have is =
    let read = came_from (param_at kind given part) (λ param. params_from kind (inserted param given) parts) all is in
    let new = param_is_new kind given part read.0 read.1 in
    params_are_given kind (inserted read.0 given) parts all (inserted_rise 0 read.0 given (omega arith) new.1 rise) (inserted_have (slots kind) read.0 given new.0 have) read.2

complete_call : (kind : ℕ) (given : List Param) (call : Call) → ParamsRise 0 given → HaveSlots (slots kind) given → completed kind given ≡ Ok call → IsCall call
unfolding completed
complete_call kind given call rise have = by (find (is_missing given) (slots kind)) refl
  where
    by : (o : Option Slot) → find (is_missing given) (slots kind) ≡ o → call_unless kind given o ≡ Ok call → IsCall call
    by None none is =
        let call_is : record { kind = record { 0 = kind }; params = given } ≡ call = cc in
        subst IsCall call_is (subst (λ takes. Fill takes given) (slots_wanted kind) (fills (slots kind) 0 given (slots_rise kind) rise have (all_given given (slots kind) none)))
    by (Some slot) some never = absurd (let no : ⊥ = cc in no)

named_call : (kind : ℕ) (parts : List Part) (call : Call) → call_with kind parts ≡ Ok call → IsCall call
unfolding call_with
named_call kind parts call is =
    let read = came_from (params_from kind [] parts) (completed kind) call is in
    let given = params_are_given kind [] parts read.0 tt tt read.1 in
    complete_call kind read.0 call given.0 given.1 read.2

placed_call : (plain : List ℕ) (at : ℕ) (o : Option Piece) (call : Call) → call_or_place plain at o ≡ Ok call → IsCall call
unfolding call_of
placed_call plain at None call never = absurd (let no : ⊥ = cc in no)
placed_call plain at (Some piece) call is =
    let read = came_from (kind_of plain piece.0) (λ kind. call_with kind piece.1) call is in
    named_call read.0 piece.1 call read.2

-- the call of one piece, where it has one
call_in_piece : (plain : List ℕ) (at : ℕ) (piece : List ℕ) (call : Option Call) → piece_call plain at piece ≡ Ok call → All IsCall (option_to_list call)
unfolding piece_call call_at
call_in_piece plain at piece call = by (is_empty (trimmed piece))
  where
    by : (b : Bool) → cond b (Ok None) (call_at plain at (trimmed piece) >>= λ c. Ok (Some c)) ≡ Ok call → All IsCall (option_to_list call)
    by true is = let it : None ≡ call = cc in subst (λ c. All IsCall (option_to_list c)) it (All-nil IsCall)
    by false is =
        let read = came_from (call_at plain at (trimmed piece)) (λ c. Ok (Some c)) call is in
        let it : Some read.0 ≡ call = let same = read.2 in cc in
        subst (λ c. All IsCall (option_to_list c)) it (All-cons IsCall read.0 [] (placed_call plain at (piece_of (trimmed piece)) read.0 read.1) (All-nil IsCall))

calls_in_pieces : (plain : List ℕ) (at : ℕ) (pieces : List (List ℕ)) (calls : List Call) → calls_from plain at pieces ≡ Ok calls → All IsCall calls
unfolding calls_from
calls_in_pieces plain at [] calls is = let it : [] ≡ calls = cc in subst (All IsCall) it (All-nil IsCall)
calls_in_pieces plain at (piece ∷ pieces) calls is =
    let first = came_from (piece_call plain at piece) (λ call. calls_from plain (at + (length piece + 1)) pieces >>= λ more. Ok (option_to_list call ++ more)) calls is in
    let later = came_from (calls_from plain (at + (length piece + 1)) pieces) (λ more. Ok (option_to_list first.0 ++ more)) calls first.2 in
    let it : option_to_list first.0 ++ later.0 ≡ calls = let same = later.2 in cc in
    subst (All IsCall) it (All-append IsCall (option_to_list first.0) later.0 (call_in_piece plain at piece first.0 first.1) (calls_in_pieces plain (at + (length piece + 1)) pieces later.0 later.1))

-- Each call that the parser gives has the parameters that its kind takes.
pub parsed_are_calls : (plain : List ℕ) (pieces : List (List ℕ)) (result : Result (List Call) InstrRefusal) → Gives (λ calls. calls) result (calls_from plain 0 pieces) → IfOk result (λ calls. All IsCall calls)
parsed_are_calls plain pieces (Ok calls) gives = calls_in_pieces plain 0 pieces calls gives
parsed_are_calls plain pieces (Err refusal) gives = tt
