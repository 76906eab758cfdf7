-- Parameters that rise in their codes, of which each has its slot and none that is needed is missing, fill the slots.
use Rattle.std.proofs.Common.{◌≡◌, ℕ, ◌+◌, ◌<◌, ◌≤◌, Bool, true, false, cond, List, [], ◌∷◌, map, Some, None, inl, inr, refl, sym, ◌∙◌, ap, subst, arith}
use Rattle.std.specs.Prelude.{◌||◌, ◌&&◌, not, nat_lt, ◌==◌, IsTrue}
use Rattle.std.specs.List.{find}
use Rattle.std.proofs.lemmas.Bool.{cases_Bool}
use Rattle.std.proofs.lemmas.Bool.Decides.{nat_tests}
use Rattle.instr_parser.specs.declared.call.Param.{Param}
use Rattle.instr_parser.specs.declared.form.Slot.{Slot}
use Rattle.instr_parser.specs.Given.{Slot as WantedSlot, HasForm, Fill}
use Rattle.instr_parser.specs.Params.{is_given, is_missing, inserted}
use Rattle.instr_parser.proofs.GivenForms.{wanted}

abbrev pub wanted_slot : Slot → WantedSlot
wanted_slot slot = record { code = slot.code; form = wanted slot.form; is_needed = slot.is_needed }

-- The codes rise, from this one on.
abbrev pub ParamsRise : ℕ → List Param → Type 0
ParamsRise least [] = Unit {0}
ParamsRise least (param ∷ params) = (least ≤ param.code) × ParamsRise (param.code + 1) params

abbrev pub SlotsRise : ℕ → List Slot → Type 0
SlotsRise least [] = Unit {0}
SlotsRise least (slot ∷ takes) = (least ≤ slot.code) × SlotsRise (slot.code + 1) takes

-- One of the takes is the parameter's, and its value has the form.
abbrev pub HasSlot : List Slot → Param → Type 0
HasSlot takes param = (slot : Slot) × (find (λ s. s.code == param.code) takes ≡ Some slot) × HasForm (wanted slot.form) param.value

abbrev pub HaveSlots : List Slot → List Param → Type 0
HaveSlots takes [] = Unit {0}
HaveSlots takes (param ∷ params) = HasSlot takes param × HaveSlots takes params

-- What is needed is given.
abbrev pub AreGiven : List Param → List Slot → Type 0
AreGiven given [] = Unit {0}
AreGiven given (slot ∷ takes) = (slot.is_needed ≡ true → is_given slot.code given ≡ true) × AreGiven given takes

same : (a b : ℕ) → (a == b) ≡ true → a ≡ b
same a b is = grind (arith, nat_tests)

other : (a b : ℕ) → a < b → (a == b) ≡ false
other a b less = grind (arith, nat_tests)

over : (a b : ℕ) → b < a → (a == b) ≡ false
over a b less = grind (arith, nat_tests)

apart : (a b : ℕ) → (a == b) ≡ false → b ≤ a → b + 1 ≤ a
apart a b is le = grind (arith, nat_tests)

rise_from : (least more : ℕ) (params : List Param) → least ≤ more → ParamsRise more params → ParamsRise least params
rise_from least more [] le rises = tt
rise_from least more (param ∷ params) le rises = (omega (arith, le, rises.0), rises.1)

-- A code below all that are there isn't among them.
none_given : (code : ℕ) (params : List Param) → ParamsRise (code + 1) params → is_given code params ≡ false
none_given code [] rises = refl
none_given code (param ∷ params) rises =
    ap (λ (b : Bool). b || is_given code params) (over param.code code (omega (arith, rises.0)))
    ∙ none_given code params (rise_from (code + 1) (param.code + 1) params (omega (arith, rises.0)) rises.1)

-- A slot that is found is one of those that rise.
slot_over : (least code : ℕ) (takes : List Slot) (slot : Slot) → SlotsRise least takes → find (λ s. s.code == code) takes ≡ Some slot → least ≤ code
slot_over least code [] slot rises never = absurd (let no : ⊥ = cc in no)
slot_over least code (first ∷ takes) slot rises found = by (first.code == code) refl found (slot_over (first.code + 1) code takes slot rises.1)
  where
    by : (b : Bool) → (first.code == code) ≡ b → cond b (Some first) (find (λ s. s.code == code) takes) ≡ Some slot
        → (find (λ s. s.code == code) takes ≡ Some slot → first.code + 1 ≤ code) → least ≤ code
    by true is found' later = omega (arith, same first.code code is, rises.0)
    by false is found' later = omega (arith, rises.0, later found')

pub found_code : (code : ℕ) (takes : List Slot) (slot : Slot) → find (λ s. s.code == code) takes ≡ Some slot → slot.code ≡ code
found_code code [] slot never = absurd (let no : ⊥ = cc in no)
found_code code (first ∷ takes) slot found = by (first.code == code) refl found (found_code code takes slot)
  where
    by : (b : Bool) → (first.code == code) ≡ b → cond b (Some first) (find (λ s. s.code == code) takes) ≡ Some slot
        → (find (λ s. s.code == code) takes ≡ Some slot → slot.code ≡ code) → slot.code ≡ code
    by true is found' later = let it : first ≡ slot = cc in ap (λ (s : Slot). s.code) (sym it) ∙ same first.code code is
    by false is found' later = later found'

-- Parameters behind a slot's code have their takes behind it.
have_later : (first : Slot) (takes : List Slot) (params : List Param) → ParamsRise (first.code + 1) params → HaveSlots (first ∷ takes) params → HaveSlots takes params
have_later first takes [] rises have = tt
have_later first takes (param ∷ params) rises have = (
  (have.0.0, sym (ap (λ (b : Bool). cond b (Some first) (find (λ s. s.code == param.code) takes)) (other first.code param.code (omega (arith, rises.0)))) ∙ have.0.1, have.0.2),
  have_later first takes params (rise_from (first.code + 1) (param.code + 1) params (omega (arith, rises.0)) rises.1) have.1,
)

-- Slots behind a parameter's code are given by what stands behind it.
given_later : (param : Param) (params : List Param) (takes : List Slot) (least : ℕ) → param.code < least → SlotsRise least takes → AreGiven (param ∷ params) takes → AreGiven params takes
given_later param params [] least less rises given = tt
given_later param params (slot ∷ takes) least less rises given = (
  λ needed. sym (ap (λ (b : Bool). b || is_given slot.code params) (other param.code slot.code (omega (arith, less, rises.0)))) ∙ given.0 needed,
  given_later param params takes (slot.code + 1) (omega (arith, less, rises.0)) rises.1 given.1,
)

not_needed : (needed is : Bool) → (needed ≡ true → is ≡ true) → is ≡ false → IsTrue (not needed)
not_needed true is given missing = absurd (let is_there = given refl in let no : ⊥ = cc in no)
not_needed false is given missing = refl

-- what remains of the takes once the first is passed over
module _ (first : Slot) (takes : List Slot) where
  matching : (param : Param) (slot : Slot) → (first.code == param.code) ≡ true → find (λ s. s.code == param.code) (first ∷ takes) ≡ Some slot → first ≡ slot
  matching param slot is found =
      let it : Some first ≡ Some slot = sym (ap (λ (b : Bool). cond b (Some first) (find (λ s. s.code == param.code) takes)) is) ∙ found in
      cc

  passed_over : (param : Param) (slot : Slot) → (first.code == param.code) ≡ false → find (λ s. s.code == param.code) (first ∷ takes) ≡ Some slot → find (λ s. s.code == param.code) takes ≡ Some slot
  passed_over param slot is found = sym (ap (λ (b : Bool). cond b (Some first) (find (λ s. s.code == param.code) takes)) is) ∙ found

pub fills : (takes : List Slot) (least : ℕ) (params : List Param) → SlotsRise least takes → ParamsRise least params → HaveSlots takes params → AreGiven params takes → Fill (map wanted_slot takes) params
fills [] least [] slots_rise rises have given = tt
fills [] least (param ∷ params) slots_rise rises have given = absurd (let never = have.0.1 in let no : ⊥ = cc in no)
fills (slot ∷ takes) least [] slots_rise rises have given =
    (not_needed slot.is_needed false given.0 refl, fills takes (slot.code + 1) [] slots_rise.1 tt tt given.1)
fills (slot ∷ takes) least (param ∷ params) slots_rise rises have given = elim (cases_Bool (slot.code == param.code)) [
  | inl is ↦
      let codes : slot.code ≡ param.code = same slot.code param.code is in
      let behind : ParamsRise (slot.code + 1) params = subst (λ n. ParamsRise (n + 1) params) (sym codes) rises.1 in
      let it : slot ≡ have.0.0 = matching slot takes param have.0.0 is have.0.1 in
      inl (
        sym codes,
        subst (λ (s : Slot). HasForm (wanted s.form) param.value) (sym it) have.0.2,
        fills takes (slot.code + 1) params slots_rise.1 behind (have_later slot takes params behind have.1)
            (given_later param params takes (slot.code + 1) (omega (arith, codes)) slots_rise.1 given.1),
      )
  | inr not_it ↦
      let found = passed_over slot takes param have.0.0 not_it have.0.1 in
      let behind : ParamsRise (slot.code + 1) (param ∷ params) = (slot_over (slot.code + 1) param.code takes have.0.0 slots_rise.1 found, rises.1) in
      inr (
        not_needed slot.is_needed (is_given slot.code (param ∷ params)) given.0 (none_given slot.code (param ∷ params) behind),
        fills takes (slot.code + 1) (param ∷ params) slots_rise.1 behind (have_later slot takes (param ∷ params) behind have) given.1,
      )
]

-- no slot is missing
pub all_given : (given : List Param) (takes : List Slot) → find (is_missing given) takes ≡ None → AreGiven given takes
all_given given [] none = tt
all_given given (slot ∷ takes) none = by slot.is_needed (is_given slot.code given) refl refl none (all_given given takes)
  where
    by : (needed is : Bool) → slot.is_needed ≡ needed → is_given slot.code given ≡ is → cond (needed && not is) (Some slot) (find (is_missing given) takes) ≡ None
        → (find (is_missing given) takes ≡ None → AreGiven given takes) → AreGiven given (slot ∷ takes)
    by true true n i none' later = (λ h. i, later none')
    by true false n i none' later = absurd (let no : ⊥ = cc in no)
    by false is n i none' later = (λ h. absurd (let no : ⊥ = cc in no), later none')

pub inserted_rise : (least : ℕ) (param : Param) (given : List Param) → least ≤ param.code → is_given param.code given ≡ false → ParamsRise least given → ParamsRise least (inserted param given)
inserted_rise least param [] le free rises = (le, tt)
inserted_rise least param (first ∷ given) le free rises = by (first.code == param.code) (nat_lt first.code param.code) refl refl free (inserted_rise (first.code + 1) param given)
  where
    by : (is less : Bool) → (first.code == param.code) ≡ is → nat_lt first.code param.code ≡ less → (is || is_given param.code given) ≡ false
        → (first.code + 1 ≤ param.code → is_given param.code given ≡ false → ParamsRise (first.code + 1) given → ParamsRise (first.code + 1) (inserted param given))
        → ParamsRise least (cond less (first ∷ inserted param given) (param ∷ first ∷ given))
    by true less is before free' later = absurd (let no : ⊥ = cc in no)
    by false true is before free' later = (rises.0, later (grind (arith, nat_tests)) free' rises.1)
    by false false is before free' later = (le, (grind (arith, nat_tests), rises.1))

pub inserted_have : (takes : List Slot) (param : Param) (given : List Param) → HasSlot takes param → HaveSlots takes given → HaveSlots takes (inserted param given)
inserted_have takes param [] has have = (has, tt)
inserted_have takes param (first ∷ given) has have = by (nat_lt first.code param.code) (inserted_have takes param given has have.1)
  where
    by : (less : Bool) → HaveSlots takes (inserted param given) → HaveSlots takes (cond less (first ∷ inserted param given) (param ∷ first ∷ given))
    by true later = (have.0, later)
    by false later = (has, (have.0, have.1))
