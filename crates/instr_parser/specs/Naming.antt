-- Which action a name is. The names of an action are its qualified name, with its touchpoint's prefix, and its plain
-- name, in units of its touchpoint and in those that import the qualified name.
use Rattle.std.specs.Prelude.{ℕ, ◌==◌, ◌||◌, not, Bool, false, List, Option, Some, None, option_and_then, filter, map, Result, Ok, Err, codes, if◌then◌else◌}
use Rattle.std.specs.List.{list_any, slice_split, take_while}
use Rattle.std.specs.Str.{bytes_eq}
use Rattle.case_table.specs.Rows.{code_of}
use Rattle.instr_text.specs.declared.fault.InstrRefusal.{InstrRefusal}
use Rattle.instr_text.specs.declared.fault.InstrRefusal.TheVariants.{UnknownAction, LeftOutAction}
use Rattle.instr_text.specs.Cut.{trimmed}
use Rattle.instr_parser.specs.declared.naming.Meaning.{Meaning}
use Rattle.instr_parser.specs.declared.naming.Meaning.TheVariants as means
use Rattle.instr_text.specs.Front.{behind}
use Rattle.instr_parser.specs.Tables.{actions, left_out}

-- what the qualified names of the native actions begin with
abbrev pub natives : List ℕ
natives = codes "org.eclipse.equinox.p2.touchpoint.natives."

-- what the names of the Eclipse touchpoint's actions begin with
abbrev pub eclipse : List ℕ
eclipse = codes "org.eclipse.equinox.p2.touchpoint.eclipse."

abbrev pub is_native : Option (List ℕ) → Bool
is_native None = false
is_native (Some id) = bytes_eq id (codes "org.eclipse.equinox.p2.native")

-- the action with this qualified name
unfoldable pub qualified : List ℕ → Option ℕ
qualified name = option_and_then (code_of actions) (behind natives name)

-- the action that a part of the imports names, in front of its first `;`
unfoldable pub imported : List ℕ → Option ℕ
imported import = qualified (trimmed (take_while (λ b. not (b == 59)) import))

abbrev pub is_that : ℕ → Option ℕ → Bool
is_that kind None = false
is_that kind (Some other) = other == kind

-- Some part between the `,` of the imports names the action.
abbrev pub is_imported : List (List ℕ) → ℕ → Bool
is_imported imports kind = list_any (λ import. is_that kind (imported import)) imports

-- Its plain name is taken, where the unit's touchpoint is the native one or not.
abbrev pub is_plain_in : Bool → List (List ℕ) → ℕ → Bool
is_plain_in native imports kind = native || is_imported imports kind

-- the actions whose plain names are taken
unfoldable pub plain_kinds : List ℕ → Option (List ℕ) → List ℕ
plain_kinds imports touchpoint = filter (is_plain_in (is_native touchpoint) (slice_split (λ b. b == 44) imports)) (map (λ row. row.1) actions)

abbrev pub known_or_left_out : Option ℕ → Option ℕ → Meaning
known_or_left_out (Some kind) skipped = means.Action kind
known_or_left_out None (Some skipped) = means.LeftOut
known_or_left_out None None = means.Unknown

-- what a name without prefix means
unfoldable pub known : List ℕ → Meaning
known name = known_or_left_out (code_of actions name) (code_of left_out name)

-- the same, where only these actions may be named so
abbrev pub plainly : List ℕ → Meaning → Meaning
plainly plain (means.Action kind) = if list_any (λ k. k == kind) plain then means.Action kind else means.Unknown
plainly plain means.LeftOut = means.LeftOut
plainly plain means.Unknown = means.Unknown

abbrev pub meaning_by : List ℕ → List ℕ → Option (List ℕ) → Option (List ℕ) → Meaning
meaning_by plain name (Some native) other = known native
meaning_by plain name None (Some other) = means.LeftOut
meaning_by plain name None None = plainly plain (known name)

unfoldable pub meaning_of : List ℕ → List ℕ → Meaning
meaning_of plain name = meaning_by plain name (behind natives name) (behind eclipse name)

abbrev pub kind_or_refusal : List ℕ → Meaning → Result ℕ InstrRefusal
kind_or_refusal name (means.Action kind) = Ok kind
kind_or_refusal name means.LeftOut = Err (LeftOutAction name)
kind_or_refusal name means.Unknown = Err (UnknownAction name)

-- the action of this name
unfoldable pub kind_of : List ℕ → List ℕ → Result ℕ InstrRefusal
kind_of plain name = kind_or_refusal name (meaning_of plain name)
