-- The words of the refusals.
use Rattle.std.specs.Prelude.{ℕ, List, [], ◌∷◌, codes, unwrap_or}
use Rattle.case_table.specs.Rows.{Row, name_of}
use Rattle.instr_text.specs.declared.fault.InstrRefusal.{InstrRefusal}
use Rattle.instr_text.specs.declared.fault.InstrRefusal.TheVariants.{BadSyntax, UnknownAction, LeftOutAction, MissingParam, UnknownParam, RepeatedParam, BadParam, UnknownVariable, OutsideFolder, BadPath, NoMemory}

abbrev pub words : List Row
words =
    (codes "BadSyntax", 0)
    ∷ (codes "UnknownAction", 1)
    ∷ (codes "LeftOutAction", 2)
    ∷ (codes "MissingParam", 3)
    ∷ (codes "UnknownParam", 4)
    ∷ (codes "RepeatedParam", 5)
    ∷ (codes "BadParam", 6)
    ∷ (codes "UnknownVariable", 7)
    ∷ (codes "OutsideFolder", 8)
    ∷ (codes "BadPath", 9)
    ∷ (codes "NoMemory", 10)
    ∷ []

abbrev pub refusal_code : InstrRefusal → ℕ
refusal_code (BadSyntax at) = 0
refusal_code (UnknownAction name) = 1
refusal_code (LeftOutAction name) = 2
refusal_code (MissingParam name) = 3
refusal_code (UnknownParam name) = 4
refusal_code (RepeatedParam name) = 5
refusal_code (BadParam name) = 6
refusal_code (UnknownVariable name) = 7
refusal_code (OutsideFolder name) = 8
refusal_code (BadPath name) = 9
refusal_code NoMemory = 10

-- the word in the refusal's row
unfoldable pub refusal_word : InstrRefusal → List ℕ
refusal_word refusal = unwrap_or (name_of words (refusal_code refusal)) []
