-- Values in the form that their parameter has.
use Rattle.std.specs.Prelude.{ℕ, ◌+◌, ◌*◌, ◌-◌, ◌==◌, ◌&&◌, ◌||◌, not, nat_le, Bool, true, false, List, [], ◌∷◌, length, map, slice_index, Option, Some, None, Result, Ok, Err, codes, if◌then◌else◌}
use Rattle.std.specs.Char.{to_ascii_lowercase}
use Rattle.std.specs.Str.{bytes_eq}
use Rattle.instr_text.specs.Cut.{is_empty}
use Rattle.instr_parser.specs.declared.call.Base.{Base}
use Rattle.instr_parser.specs.declared.call.Base.TheVariants as base
use Rattle.instr_parser.specs.declared.call.Value.{Value}
use Rattle.instr_parser.specs.declared.call.Value.TheVariants.{Place, Names, Plain, Flag, Mode}
use Rattle.instr_parser.specs.declared.form.Fault.{Fault}
use Rattle.instr_parser.specs.declared.form.Fault.TheVariants as fault
use Rattle.instr_parser.specs.declared.form.Form.{Form}
use Rattle.instr_parser.specs.declared.form.Form.TheVariants as form
use Rattle.instr_parser.specs.Opened.{Opened}
use Rattle.instr_parser.specs.Path.{has, path_of}

abbrev pub begins_with_slash : List ℕ → Bool
begins_with_slash text = slice_index text 0 == 47

abbrev pub placed : Result (List (List ℕ)) Fault → Result Value Fault
placed (Ok names) = Ok (Place base.Install names)
placed (Err fault) = Err fault

-- a place in the install folder: behind the base the value ends, or goes on with `/`
unfoldable pub install_place : List ℕ → Result Value Fault
install_place rest = if is_empty rest || begins_with_slash rest then placed (path_of rest) else Err fault.Outside

-- a place, where the artifact may be one or not
abbrev pub place_value : Bool → Option Base → List ℕ → Result Value Fault
place_value takes_artifact None text = Err fault.Outside
place_value takes_artifact (Some base.Install) rest = install_place rest
place_value takes_artifact (Some base.Artifact) rest = if takes_artifact then Ok (Place base.Artifact []) else Err fault.Outside

abbrev pub one_or_more : Result (List (List ℕ)) Fault → Result Value Fault
one_or_more (Ok []) = Err fault.Path
one_or_more (Ok (name ∷ names)) = Ok (Names (name ∷ names))
one_or_more (Err fault) = Err fault

-- one name or more, with no `/` before them
unfoldable pub some_names : List ℕ → Result Value Fault
some_names text = if begins_with_slash text then Err fault.Outside else one_or_more (path_of text)

abbrev pub names_value : Option Base → List ℕ → Result Value Fault
names_value None text = some_names text
names_value (Some base) rest = Err fault.Outside

-- 1 to 4,096 bytes without NUL
unfoldable pub is_plain : List ℕ → Bool
is_plain text = not (is_empty text) && nat_le (length text) 4096 && not (has 0 text)

-- a text that stands for itself
abbrev pub plain_value : Option Base → List ℕ → Result Value Fault
plain_value None text = if is_plain text then Ok (Plain text) else Err fault.Form
plain_value (Some base) rest = Err fault.Form

-- `true`, in letters of either case
unfoldable pub is_true : List ℕ → Bool
is_true text = bytes_eq (map to_ascii_lowercase text) (codes "true")

-- Every value is one: all but `true` are false.
abbrev pub flag_value : Option Base → List ℕ → Value
flag_value None text = Flag (is_true text)
flag_value (Some base) rest = Flag false

abbrev pub is_octal : ℕ → Bool
is_octal b = nat_le 48 b && nat_le b 55

-- the number that three octal digits write
abbrev pub mode_of : List ℕ → Option ℕ
mode_of (a ∷ b ∷ c ∷ []) = if is_octal a && is_octal b && is_octal c then Some (64 * (a - 48) + 8 * (b - 48) + (c - 48)) else None
mode_of [] = None
mode_of (a ∷ []) = None
mode_of (a ∷ b ∷ []) = None
mode_of (a ∷ b ∷ c ∷ d ∷ text) = None

abbrev pub mode_or_fault : Option ℕ → Result Value Fault
mode_or_fault (Some mode) = Ok (Mode mode)
mode_or_fault None = Err fault.Form

abbrev pub mode_value : Option Base → List ℕ → Result Value Fault
mode_value None text = mode_or_fault (mode_of text)
mode_value (Some base) rest = Err fault.Form

-- the value in its form, or what is amiss with it
unfoldable pub formed : Form → Opened → Result Value Fault
formed form.Place opened = place_value false opened.0 opened.1
formed form.Source opened = place_value true opened.0 opened.1
formed form.Names opened = names_value opened.0 opened.1
formed form.Plain opened = plain_value opened.0 opened.1
formed form.Flag opened = Ok (flag_value opened.0 opened.1)
formed form.Mode opened = mode_value opened.0 opened.1
