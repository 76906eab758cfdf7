-- The names between the `/` of a text.
use Rattle.std.specs.Prelude.{ℕ, ◌==◌, ◌&&◌, not, nat_le, nat_lt, Bool, List, length, filter, Option, Some, None, Result, Ok, Err, codes, if◌then◌else◌}
use Rattle.std.specs.List.{list_any, list_all, slice_split}
use Rattle.std.specs.Str.{bytes_eq}
use Rattle.instr_text.specs.Cut.{is_empty}
use Rattle.instr_parser.specs.declared.form.Fault.{Fault}
use Rattle.instr_parser.specs.declared.form.Fault.TheVariants as fault

-- The empty piece and `.` say nothing.
abbrev pub is_kept : List ℕ → Bool
is_kept piece = not (is_empty piece) && not (bytes_eq piece (codes "."))

abbrev pub has : ℕ → List ℕ → Bool
has byte text = list_any (λ b. b == byte) text

-- 1 to 255 bytes with no `/` and no NUL, and not `.` or `..`: what a folder may name
abbrev pub is_name : List ℕ → Bool
is_name text =
    not (is_empty text) && nat_le (length text) 255 && not (has 47 text) && not (has 0 text)
    && not (bytes_eq text (codes ".")) && not (bytes_eq text (codes ".."))

abbrev pub name_of : List ℕ → Option (List ℕ)
name_of text = if is_name text then Some text else None

-- all of these, where each is a name
unfoldable pub all_names : List (List ℕ) → Option (List (List ℕ))
all_names texts = if list_all is_name texts then Some texts else None

abbrev pub names_or_fault : Option (List (List ℕ)) → Result (List (List ℕ)) Fault
names_or_fault (Some names) = Ok names
names_or_fault None = Err fault.Path

-- the same, where there are at most 60
abbrev pub named_path : List (List ℕ) → Result (List (List ℕ)) Fault
named_path texts = if nat_lt 60 (length texts) then Err fault.Path else names_or_fault (all_names texts)

abbrev pub leads_up : List (List ℕ) → Bool
leads_up pieces = list_any (λ piece. bytes_eq piece (codes "..")) pieces

abbrev pub pieces_path : List (List ℕ) → Result (List (List ℕ)) Fault
pieces_path pieces = if leads_up pieces then Err fault.Outside else named_path (filter is_kept pieces)

-- the names between the `/`, where none leads up
unfoldable pub path_of : List ℕ → Result (List (List ℕ)) Fault
path_of text = pieces_path (slice_split (λ b. b == 47) text)
