-- What is printed of a source that is refused.
use Rattle.std.specs.Prelude.{ℕ, List, [], ◌∷◌, ◌++◌, codes, ⊤}
use Rattle.std.specs.Fmt.{decimal}
use Rattle.osgi_version.specs.Field.{field}
use Rattle.osgi_version.specs.VersionText.{IsVersion, version_text}
use Rattle.unit_model.specs.declared.name.UnitName.{UnitName}
use Rattle.inf_reader.specs.declared.fault.InfRefusal.{InfRefusal}
use Rattle.inf_reader.specs.declared.fault.InfRefusal.TheVariants.{UnknownKey, LeftOutKey, NoHost, MissingId, BadValue, Duplicate, TooManyRequirements, NoMemory}
use Rattle.director_words.specs.Lines.{name_text}
use Rattle.director_words.specs.declared.source_why.SourceWhy.{SourceWhy}
use Rattle.director_words.specs.declared.source_why.SourceWhy.TheVariants.{Line, Inf}

-- the key that a refusal speaks of: for a unit without an id or a version the key of its id, and for a unit that stands
-- twice its name
abbrev pub refused_key : InfRefusal → List ℕ
refused_key (UnknownKey key) = key
refused_key (LeftOutKey key) = key
refused_key (NoHost key) = key
refused_key (MissingId number) = codes "units." ++ (decimal number ++ codes ".id")
refused_key (BadValue key) = key
refused_key (Duplicate name) = name_text name
refused_key (TooManyRequirements name) = name_text name
refused_key NoMemory = []

-- the name of a refusal
abbrev pub refusal_word : InfRefusal → List ℕ
refusal_word (UnknownKey key) = codes "UnknownKey"
refusal_word (LeftOutKey key) = codes "LeftOutKey"
refusal_word (NoHost key) = codes "NoHost"
refusal_word (MissingId number) = codes "MissingId"
refusal_word (BadValue key) = codes "BadValue"
refusal_word (Duplicate name) = codes "Duplicate"
refusal_word (TooManyRequirements name) = codes "TooManyRequirements"
refusal_word NoMemory = codes "NoMemory"

-- `line N BadEscape`, or `key KEY WHY`
abbrev pub why_text : SourceWhy → List ℕ
why_text (Line number) = codes "line " ++ (decimal number ++ codes " BadEscape")
why_text (Inf refusal) = codes "key " ++ (field (refused_key refusal) ++ 32 ∷ refusal_word refusal)

-- A refusal for want of memory, or for a limit, is printed as a status of its own. A name has a text where its version has.
abbrev pub CanPrintRefusal : InfRefusal → Type 0
CanPrintRefusal NoMemory = ⊥
CanPrintRefusal (TooManyRequirements name) = ⊥
CanPrintRefusal (Duplicate name) = IsVersion name.version
CanPrintRefusal (UnknownKey key) = ⊤
CanPrintRefusal (LeftOutKey key) = ⊤
CanPrintRefusal (NoHost key) = ⊤
CanPrintRefusal (MissingId number) = ⊤
CanPrintRefusal (BadValue key) = ⊤

abbrev pub CanPrintWhy : SourceWhy → Type 0
CanPrintWhy (Line number) = ⊤
CanPrintWhy (Inf refusal) = CanPrintRefusal refusal
