-- What values are, where they have the form that is asked for.
use Rattle.std.specs.Prelude.{ℕ, Bool, false, List, map, Option, Some, None, option_and_then, codes, if◌then◌else◌}
use Rattle.std.specs.Str.{bytes_eq}
use Rattle.std.specs.Char.{to_ascii_lowercase}
use Rattle.osgi_version.specs.declared.version.Version.{Version}
use Rattle.osgi_version.specs.declared.range.Range.{Range}
use Rattle.ldap_filter.specs.declared.filter.Filter.{Filter}
use Rattle.inf_values.specs.declared.reading.Value.{Value}
use Rattle.inf_values.specs.declared.reading.Value.TheVariants as values
use Rattle.inf_values.specs.Host.{is_id}
use Rattle.inf_values.specs.Number.{number_at_most}

abbrev pub plain_in : Value → Option (List ℕ)
plain_in (values.Plain text) = Some text
plain_in (values.Version version) = None
plain_in (values.Range range) = None
plain_in (values.Filter filter) = None

-- a text that has the form of a unit's id
abbrev pub id_in : Value → Option (List ℕ)
id_in value = option_and_then (λ text. if is_id text then Some text else None) (plain_in value)

abbrev pub version_in : Value → Option Version
version_in (values.Plain text) = None
version_in (values.Version version) = version
version_in (values.Range range) = None
version_in (values.Filter filter) = None

abbrev pub range_in : Value → Option Range
range_in (values.Plain text) = None
range_in (values.Version version) = None
range_in (values.Range range) = range
range_in (values.Filter filter) = None

abbrev pub filter_in : Value → Option Filter
filter_in (values.Plain text) = None
filter_in (values.Version version) = None
filter_in (values.Range range) = None
filter_in (values.Filter filter) = filter

-- a number of at most 2147483647
abbrev pub number_in : Value → Option ℕ
number_in value = option_and_then (number_at_most 2147483647) (plain_in value)

-- `true`, in letters of either case
unfoldable pub is_true : List ℕ → Bool
is_true text = bytes_eq (map to_ascii_lowercase text) (codes "true")

abbrev pub true_text : Option (List ℕ) → Bool
true_text (Some text) = is_true text
true_text None = false

abbrev pub is_true_in : Value → Bool
is_true_in value = true_text (plain_in value)
