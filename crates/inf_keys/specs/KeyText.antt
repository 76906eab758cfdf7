-- The texts of keys.
use Rattle.std.specs.Prelude.{ℕ, List, ◌∷◌, ◌++◌, codes}
use Rattle.std.specs.Fmt.{decimal}
use Rattle.inf_keys.specs.declared.fields.PhaseField.TheVariants as phase_field
use Rattle.inf_keys.specs.declared.key.Owner.{Owner}
use Rattle.inf_keys.specs.declared.key.Owner.TheVariants.{Host, Unit}
use Rattle.inf_keys.specs.declared.key.Part.{Part}
use Rattle.inf_keys.specs.declared.key.Part.TheVariants as part
use Rattle.inf_keys.specs.declared.key.Key.{Key}
use Rattle.inf_keys.specs.Names.{single_name, property_name, provided_name, required_name, artifact_name, phase_name}

-- `WORD.N.FIELD`
abbrev pub row_text : List ℕ → ℕ → List ℕ → List ℕ
row_text word row field = word ++ 46 ∷ (decimal row ++ 46 ∷ field)

-- the part as a key of the host has it, and as a unit's has it behind `units.N.`
abbrev pub part_text : Part → List ℕ
part_text (part.Single s) = single_name s
part_text (part.Property n f) = row_text (codes "properties") n (property_name f)
part_text (part.Provided n f) = row_text (codes "provides") n (provided_name f)
part_text (part.Required n f) = row_text (codes "requires") n (required_name f)
part_text (part.Artifact n f) = row_text (codes "artifacts") n (artifact_name f)
part_text (part.Instruction p phase_field.Text) = codes "instructions." ++ phase_name p
part_text (part.Instruction p phase_field.Import) = codes "instructions." ++ (phase_name p ++ codes ".import")

-- `PART` for the host, `units.N.PART` for unit N
abbrev pub owner_text : Owner → List ℕ → List ℕ
owner_text Host text = text
owner_text (Unit n) text = codes "units." ++ (decimal n ++ 46 ∷ text)

-- the one text of a key
abbrev pub key_text : Key → List ℕ
key_text key = owner_text key.owner (part_text key.part)
