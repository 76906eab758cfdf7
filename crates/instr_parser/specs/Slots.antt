-- The parameters that each action takes.
use Rattle.std.specs.Prelude.{ℕ, ◌==◌, true, false, List, [], ◌∷◌, Option, option_and_then, if◌then◌else◌}
use Rattle.std.specs.List.{find}
use Rattle.case_table.specs.Rows.{code_of}
use Rattle.instr_parser.specs.declared.form.Form.{Form}
use Rattle.instr_parser.specs.declared.form.Form.TheVariants as form
use Rattle.instr_parser.specs.declared.form.Slot.{Slot}
use Rattle.instr_parser.specs.Tables.{params}

abbrev pub needed : ℕ → Form → Slot
needed code form = record { code = code; form = form; is_needed = true }

abbrev pub optional : ℕ → Form → Slot
optional code form = record { code = code; form = form; is_needed = false }

-- in the table's order
unfoldable pub slots : ℕ → List Slot
slots kind =
    if kind == 0 then needed 0 form.Place ∷ []  -- mkdir(path)
    else if kind == 1 then needed 0 form.Place ∷ []  -- rmdir(path)
    else if kind == 2 then needed 0 form.Place ∷ []  -- remove(path)
    else if kind == 3 then needed 1 form.Source ∷ needed 2 form.Place ∷ optional 3 form.Flag ∷ []  -- copy(source, target, overwrite)
    else if kind == 4 then needed 1 form.Source ∷ needed 2 form.Place ∷ []  -- cleanupcopy(source, target)
    else if kind == 5 then needed 4 form.Place ∷ needed 5 form.Names ∷ needed 6 form.Mode ∷ []  -- chmod(targetDir, targetFile, permissions)
    else if kind == 6 then needed 4 form.Place ∷ needed 7 form.Plain ∷ needed 8 form.Names ∷ []  -- ln(targetDir, linkTarget, linkName)
    else []

-- the parameter of this name, where the action takes it
unfoldable pub slot_named : ℕ → List ℕ → Option Slot
slot_named kind name = option_and_then (λ code. find (λ slot. slot.code == code) (slots kind)) (code_of params name)
