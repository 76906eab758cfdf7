-- The calls that an action takes: those that the parser gives for its kind.
use Rattle.std.specs.Prelude.{◌≡◌, ◌⊎◌, ℕ, ◌<◌, ◌≤◌, ◌==◌, not, Bool, true, false, List, [], ◌∷◌, length, IsTrue, if◌then◌else◌, ⊤}
use Rattle.instr_parser.specs.declared.call.Base.TheVariants as base
use Rattle.instr_parser.specs.declared.call.Call.{Call}
use Rattle.instr_parser.specs.declared.call.Param.{Param}
use Rattle.instr_parser.specs.declared.call.Value.{Value}
use Rattle.instr_parser.specs.declared.call.Value.TheVariants.{Place, Names, Plain, Flag, Mode}

-- in the install folder, with at most 60 names
abbrev pub IsPlace : Value → Type 0
IsPlace (Place base.Install names) = length names ≤ 60
IsPlace (Place base.Artifact names) = ⊥
IsPlace (Names names) = ⊥
IsPlace (Plain text) = ⊥
IsPlace (Flag flag) = ⊥
IsPlace (Mode mode) = ⊥

-- such a place, or the artifact
abbrev pub IsSource : Value → Type 0
IsSource (Place base.Install names) = length names ≤ 60
IsSource (Place base.Artifact names) = names ≡ []
IsSource (Names names) = ⊥
IsSource (Plain text) = ⊥
IsSource (Flag flag) = ⊥
IsSource (Mode mode) = ⊥

abbrev pub AreNames : Value → Type 0
AreNames (Place base names) = ⊥
AreNames (Names names) = (0 < length names) × (length names ≤ 60)
AreNames (Plain text) = ⊥
AreNames (Flag flag) = ⊥
AreNames (Mode mode) = ⊥

abbrev pub IsPlain : Value → Type 0
IsPlain (Place base names) = ⊥
IsPlain (Names names) = ⊥
IsPlain (Plain text) = length text ≤ 4096
IsPlain (Flag flag) = ⊥
IsPlain (Mode mode) = ⊥

abbrev pub IsFlag : Value → Type 0
IsFlag (Place base names) = ⊥
IsFlag (Names names) = ⊥
IsFlag (Plain text) = ⊥
IsFlag (Flag flag) = ⊤
IsFlag (Mode mode) = ⊥

abbrev pub IsMode : Value → Type 0
IsMode (Place base names) = ⊥
IsMode (Names names) = ⊥
IsMode (Plain text) = ⊥
IsMode (Flag flag) = ⊥
IsMode (Mode mode) = mode ≤ 511

-- what a value has to be
pub data Form : Type 0 where
  APlace : Form
  ASource : Form
  SomeNames : Form
  AText : Form
  AFlag : Form
  AMode : Form

abbrev pub HasForm : Form → Value → Type 0
HasForm APlace value = IsPlace value
HasForm ASource value = IsSource value
HasForm SomeNames value = AreNames value
HasForm AText value = IsPlain value
HasForm AFlag value = IsFlag value
HasForm AMode value = IsMode value

-- a parameter that an action takes
pub record Slot : Type 0 where
  pub code : ℕ
  pub form : Form
  pub is_needed : Bool

abbrev pub needed : ℕ → Form → Slot
needed code form = record { code = code; form = form; is_needed = true }

abbrev pub optional : ℕ → Form → Slot
optional code form = record { code = code; form = form; is_needed = false }

-- the parameters of each kind, by the codes of the tables of actions and of parameters
abbrev pub slots_of : ℕ → List Slot
slots_of kind =
    if kind == 0 then needed 0 APlace ∷ []  -- mkdir(path)
    else if kind == 1 then needed 0 APlace ∷ []  -- rmdir(path)
    else if kind == 2 then needed 0 APlace ∷ []  -- remove(path)
    else if kind == 3 then needed 1 ASource ∷ needed 2 APlace ∷ optional 3 AFlag ∷ []  -- copy(source, target, [overwrite])
    else if kind == 4 then needed 1 ASource ∷ needed 2 APlace ∷ []  -- cleanupcopy(source, target)
    else if kind == 5 then needed 4 APlace ∷ needed 5 SomeNames ∷ needed 6 AMode ∷ []  -- chmod(targetDir, targetFile, permissions)
    else if kind == 6 then needed 4 APlace ∷ needed 7 AText ∷ needed 8 SomeNames ∷ []  -- ln(targetDir, linkTarget, linkName)
    else []

-- The parameters are those of the slots, in their order. One that isn't needed may be missing.
abbrev pub Fill : List Slot → List Param → Type 0
Fill [] [] = ⊤
Fill [] (param ∷ params) = ⊥
Fill (slot ∷ slots) [] = IsTrue (not slot.is_needed) × Fill slots []
Fill (slot ∷ slots) (param ∷ params) =
    ((param.code ≡ slot.code) × HasForm slot.form param.value × Fill slots params)
    ⊎ (IsTrue (not slot.is_needed) × Fill slots (param ∷ params))

-- Its parameters are those that its kind takes.
abbrev pub IsCall : Call → Type 0
IsCall call = Fill (slots_of call.kind.0) call.params
