-- How the texts of keys and values are read.
use Rattle.std.specs.Prelude.{ℕ, List, Option, Some, None}
use Rattle.osgi_version.specs.declared.version.Version.{Version}
use Rattle.osgi_version.specs.declared.range.Range.{Range}
use Rattle.osgi_version.specs.VersionText.{DenotesVersion}
use Rattle.osgi_version.specs.RangeText.{DenotesRange}
use Rattle.ldap_filter.specs.FilterText.{DenotesFilter}
use Rattle.ldap_filter.specs.declared.filter.Filter.{Filter}
use Rattle.inf_keys.specs.declared.key.Key.{Key}
use Rattle.inf_keys.specs.declared.reading.Reading.{Reading}
use Rattle.inf_keys.specs.Meaning.{Means}
use Rattle.inf_values.specs.declared.reading.Class.{Class}
use Rattle.inf_values.specs.declared.reading.Class.TheVariants as class
use Rattle.inf_values.specs.declared.reading.Value.{Value}
use Rattle.inf_values.specs.declared.reading.Value.TheVariants as values

-- What the text denotes, or nothing where it denotes nothing. Each text has one such reading, since the grammars
-- have one value for each of their texts.
abbrev pub Reads : {X : Type 0} → (List ℕ → X → Type 0) → List ℕ → Option X → Type 0
Reads Denotes text (Some x) = Denotes text x
Reads {X} Denotes text None = (x : X) → ¬ (Denotes text x)

-- a way to read keys, versions, ranges and filters
pub record Readings : Type 0 where
  pub key : List ℕ → Reading Key
  pub version : List ℕ → Option Version
  pub range : List ℕ → Option Range
  pub filter : List ℕ → Option Filter

-- Every text is read as what it means or denotes.
pub record ReadsAll (read : Readings) : Type 0 where
  pub key : (text : List ℕ) → Means text (read.key text)
  pub version : (text : List ℕ) → Reads DenotesVersion text (read.version text)
  pub range : (text : List ℕ) → Reads DenotesRange text (read.range text)
  pub filter : (text : List ℕ) → Reads DenotesFilter text (read.filter text)

-- the value of a key of this class
abbrev pub value_of : Readings → Class → List ℕ → Value
value_of read class.Version text = values.Version (read.version text)
value_of read class.Range text = values.Range (read.range text)
value_of read class.Filter text = values.Filter (read.filter text)
value_of read class.Plain text = values.Plain text
