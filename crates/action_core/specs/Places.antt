-- Where the places of a call are.
use Rattle.std.specs.Prelude.{ℕ, ◌==◌, Bool, false, List, [], ◌∷◌, ◌++◌, Option, Some, None, unwrap_or, slice_get, if◌then◌else◌}
use Rattle.std.specs.List.{filter_map, flat_map}
use Rattle.instr_parser.specs.declared.call.Base.{Base}
use Rattle.instr_parser.specs.declared.call.Base.TheVariants.{Install, Artifact}
use Rattle.instr_parser.specs.declared.call.Call.{Call}
use Rattle.instr_parser.specs.declared.call.Param.{Param}
use Rattle.instr_parser.specs.declared.call.Value.{Value}
use Rattle.instr_parser.specs.declared.call.Value.TheVariants.{Place, Names, Plain, Flag, Mode}

-- Where the bases are for the calls of one unit: the folder of the profile, and the unit's first artifact.
pub record Site : Type 0 where
  pub install : List (List ℕ)
  pub artifact : Option (List (List ℕ))

abbrev pub base_path : Site → Base → List (List ℕ)
base_path site Install = site.install
base_path site Artifact = unwrap_or site.artifact []

-- the value of the parameter with this code, the first of them
abbrev pub value_in : List Param → ℕ → Option Value
value_in [] code = None
value_in (param ∷ params) code = if param.code == code then Some param.value else value_in params code

unfoldable pub value_of : Call → ℕ → Option Value
value_of call code = value_in call.params code

abbrev pub place_or_root : Site → Option Value → List (List ℕ)
place_or_root site (Some (Place base names)) = base_path site base ++ names
place_or_root site (Some (Names names)) = []
place_or_root site (Some (Plain text)) = []
place_or_root site (Some (Flag flag)) = []
place_or_root site (Some (Mode mode)) = []
place_or_root site None = []

-- where the place of this parameter is, whether a path has so many names or not
abbrev pub place_at : Site → Call → ℕ → List (List ℕ)
place_at site call code = place_or_root site (value_of call code)

abbrev pub names_or_none : Option Value → List (List ℕ)
names_or_none (Some (Place base names)) = []
names_or_none (Some (Names names)) = names
names_or_none (Some (Plain text)) = []
names_or_none (Some (Flag flag)) = []
names_or_none (Some (Mode mode)) = []
names_or_none None = []

-- the names of this parameter
abbrev pub names_at : Call → ℕ → List (List ℕ)
names_at call code = names_or_none (value_of call code)

abbrev pub text_or_none : Option Value → List ℕ
text_or_none (Some (Place base names)) = []
text_or_none (Some (Names names)) = []
text_or_none (Some (Plain text)) = text
text_or_none (Some (Flag flag)) = []
text_or_none (Some (Mode mode)) = []
text_or_none None = []

-- the text of this parameter
abbrev pub text_at : Call → ℕ → List ℕ
text_at call code = text_or_none (value_of call code)

abbrev pub flag_or_false : Option Value → Bool
flag_or_false (Some (Place base names)) = false
flag_or_false (Some (Names names)) = false
flag_or_false (Some (Plain text)) = false
flag_or_false (Some (Flag flag)) = flag
flag_or_false (Some (Mode mode)) = false
flag_or_false None = false

-- whether this parameter is there and true
abbrev pub flag_at : Call → ℕ → Bool
flag_at call code = flag_or_false (value_of call code)

abbrev pub mode_or_zero : Option Value → ℕ
mode_or_zero (Some (Place base names)) = 0
mode_or_zero (Some (Names names)) = 0
mode_or_zero (Some (Plain text)) = 0
mode_or_zero (Some (Flag flag)) = 0
mode_or_zero (Some (Mode mode)) = mode
mode_or_zero None = 0

-- the mode of this parameter
abbrev pub mode_at : Call → ℕ → ℕ
mode_at call code = mode_or_zero (value_of call code)

abbrev pub place_if : Site → Value → Option (List (List ℕ))
place_if site (Place base names) = Some (base_path site base ++ names)
place_if site (Names names) = None
place_if site (Plain text) = None
place_if site (Flag flag) = None
place_if site (Mode mode) = None

-- the first of the places that the parameters give
abbrev pub first_place : Site → List Param → List (List ℕ)
first_place site params = unwrap_or (slice_get (filter_map (λ param. place_if site param.value) params) 0) []

-- A place is one. Names lengthen the first place to one.
abbrev pub place_list : Site → List (List ℕ) → Value → List (List (List ℕ))
place_list site first (Place base names) = (base_path site base ++ names) ∷ []
place_list site first (Names names) = (first ++ names) ∷ []
place_list site first (Plain text) = []
place_list site first (Flag flag) = []
place_list site first (Mode mode) = []

-- All places of a call. They follow from the forms of its values alone, whatever its kind is.
abbrev pub places_of : Site → Call → List (List (List ℕ))
places_of site call = flat_map (λ param. place_list site (first_place site call.params) param.value) call.params
