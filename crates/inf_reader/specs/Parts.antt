-- The values of single keys, where `at` is the value of each key that has one.
use Rattle.std.specs.Prelude.{ℕ, Bool, List, Option, Some, None, Result, Ok, Err, option_and_then, is_some}
use Rattle.osgi_version.specs.declared.version.Version.{Version}
use Rattle.osgi_version.specs.declared.range.Range.{Range}
use Rattle.ldap_filter.specs.declared.filter.Filter.{Filter}
use Rattle.inf_keys.specs.declared.key.Key.{Key}
use Rattle.inf_keys.specs.KeyText.{key_text}
use Rattle.inf_values.specs.declared.reading.Value.{Value}
use Rattle.inf_values.specs.Values.{plain_in, id_in, version_in, range_in, filter_in, number_in, is_true_in}
use Rattle.inf_reader.specs.declared.fault.InfRefusal.{InfRefusal}
use Rattle.inf_reader.specs.declared.fault.InfRefusal.TheVariants.{BadValue}
use Rattle.inf_reader.specs.Gives.{◌>>=◌}

abbrev pub At : Type 0
At = Key → Option Value

abbrev pub has : At → Key → Bool
has at key = is_some (at key)

-- what a key gives, which is refused where it is missing or not in its form
abbrev pub in_form : {X : Type 0} → Key → Option X → Result X InfRefusal
in_form key (Some x) = Ok x
in_form key None = Err (BadValue (key_text key))

-- the same, with a default for a missing one
abbrev pub in_form_or : {X : Type 0} → (Value → Option X) → Key → X → Option Value → Result X InfRefusal
in_form_or form key default None = Ok default
in_form_or form key default (Some value) = in_form key (form value)

-- the same, or nothing for a missing one
abbrev pub in_form_if_there : {X : Type 0} → (Value → Option X) → Key → Option Value → Result (Option X) InfRefusal
in_form_if_there form key None = Ok None
in_form_if_there form key (Some value) = in_form key (form value) >>= λ x. Ok (Some x)

unfoldable pub text_at : At → Key → Option (List ℕ)
text_at at key = option_and_then plain_in (at key)

abbrev pub truth_of : Bool → Option Value → Bool
truth_of default None = default
truth_of default (Some value) = is_true_in value

unfoldable pub truth_or : At → Key → Bool → Bool
truth_or at key default = truth_of default (at key)

unfoldable pub needed_text : At → Key → Result (List ℕ) InfRefusal
needed_text at key = in_form key (text_at at key)

unfoldable pub needed_id : At → Key → Result (List ℕ) InfRefusal
needed_id at key = in_form key (option_and_then id_in (at key))

unfoldable pub needed_version : At → Key → Result Version InfRefusal
needed_version at key = in_form key (option_and_then version_in (at key))

unfoldable pub version_if_there : At → Key → Result (Option Version) InfRefusal
version_if_there at key = in_form_if_there version_in key (at key)

unfoldable pub range_if_there : At → Key → Result (Option Range) InfRefusal
range_if_there at key = in_form_if_there range_in key (at key)

unfoldable pub number_or : At → Key → ℕ → Result ℕ InfRefusal
number_or at key default = in_form_or number_in key default (at key)

unfoldable pub filter_if_there : At → Key → Result (Option Filter) InfRefusal
filter_if_there at key = in_form_if_there filter_in key (at key)
