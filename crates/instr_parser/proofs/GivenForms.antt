-- A value that the parser forms has the form that an action wants.
use Rattle.std.proofs.Common.{◌≡◌, ℕ, ◌+◌, ◌*◌, ◌-◌, ◌≤◌, Bool, true, false, cond, List, [], ◌∷◌, length, Option, Some, None, Result, Ok, Err, refl, subst, arith}
use Rattle.std.specs.Prelude.{◌&&◌, ◌||◌, not, nat_lt, nat_le, ◌==◌, filter}
use Rattle.std.specs.List.{list_all, slice_split}
use Rattle.std.proofs.lemmas.Bool.Decides.{nat_tests}
use Rattle.instr_text.specs.Cut.{is_empty}
use Rattle.instr_parser.specs.declared.call.Base.{Base}
use Rattle.instr_parser.specs.declared.call.Base.TheVariants as base
use Rattle.instr_parser.specs.declared.call.Value.{Value}
use Rattle.instr_parser.specs.declared.call.Value.TheVariants.{Place, Names, Plain, Mode}
use Rattle.instr_parser.specs.declared.form.Fault.{Fault}
use Rattle.instr_parser.specs.declared.form.Fault.TheVariants as fault
use Rattle.instr_parser.specs.declared.form.Form.{Form}
use Rattle.instr_parser.specs.declared.form.Form.TheVariants as form
use Rattle.instr_parser.specs.Opened.{Opened}
use Rattle.instr_parser.specs.Path.{has, is_name, is_kept, leads_up, all_names, names_or_fault, named_path, path_of}
use Rattle.instr_parser.specs.Value.{placed, install_place, place_value, begins_with_slash, one_or_more, some_names, names_value, is_plain, plain_value, is_octal, mode_of, mode_or_fault, mode_value, flag_value, formed}
use Rattle.instr_parser.specs.Given.{Form as Wanted, IsPlace, IsSource, AreNames, IsPlain, IsFlag, IsMode, HasForm}
use Rattle.instr_parser.specs.Given.Form.{APlace, ASource, SomeNames, AText, AFlag, AMode}

-- the form that an action wants where the parser has this one
abbrev pub wanted : Form → Wanted
wanted form.Place = APlace
wanted form.Source = ASource
wanted form.Names = SomeNames
wanted form.Plain = AText
wanted form.Flag = AFlag
wanted form.Mode = AMode

both : (a b : Bool) → (a && b) ≡ true → (a ≡ true) × (b ≡ true)
both true b e = (refl, e)
both false b e = absurd (let no : ⊥ = cc in no)

few : (n : ℕ) → nat_lt 60 n ≡ false → n ≤ 60
few n is = grind (arith, nat_tests)

named_few : (texts names : List (List ℕ)) → named_path texts ≡ Ok names → length names ≤ 60
unfolding all_names
named_few texts names = by (nat_lt 60 (length texts)) (list_all is_name texts) refl
  where
    by : (a b : Bool) → nat_lt 60 (length texts) ≡ a → cond a (Err fault.Path) (names_or_fault (cond b (Some texts) None)) ≡ Ok names → length names ≤ 60
    by true b many never = absurd (let no : ⊥ = cc in no)
    by false false short never = absurd (let no : ⊥ = cc in no)
    by false true short same = let is : texts ≡ names = cc in subst (λ (l : List (List ℕ)). length l ≤ 60) is (few (length texts) short)

pub path_few : (text : List ℕ) (names : List (List ℕ)) → path_of text ≡ Ok names → length names ≤ 60
unfolding path_of
path_few text names = by (leads_up pieces)
  where
    pieces : List (List ℕ)
    pieces = slice_split (λ b. b == 47) text

    by : (b : Bool) → cond b (Err fault.Outside) (named_path (filter is_kept pieces)) ≡ Ok names → length names ≤ 60
    by true never = absurd (let no : ⊥ = cc in no)
    by false is = named_few (filter is_kept pieces) names is

placed_few : (text : List ℕ) (value : Value) → placed (path_of text) ≡ Ok value → IsPlace value × IsSource value
placed_few text value = by (path_of text) refl
  where
    by : (path : Result (List (List ℕ)) Fault) → path_of text ≡ path → placed path ≡ Ok value → IsPlace value × IsSource value
    by (Ok names) is same =
        let value_is : Place base.Install names ≡ value = cc in
        let short = path_few text names is in
        subst (λ v. IsPlace v × IsSource v) value_is (short, short)
    by (Err refusal) is never = absurd (let no : ⊥ = cc in no)

install_few : (text : List ℕ) (value : Value) → install_place text ≡ Ok value → IsPlace value × IsSource value
unfolding install_place
install_few text value = by (is_empty text || begins_with_slash text)
  where
    by : (b : Bool) → cond b (placed (path_of text)) (Err fault.Outside) ≡ Ok value → IsPlace value × IsSource value
    by true is = placed_few text value is
    by false never = absurd (let no : ⊥ = cc in no)

place_formed : (o : Option Base) (text : List ℕ) (value : Value) → place_value false o text ≡ Ok value → IsPlace value
place_formed None text value never = absurd (let no : ⊥ = cc in no)
place_formed (Some base.Install) text value is = (install_few text value is).0
place_formed (Some base.Artifact) text value never = absurd (let no : ⊥ = cc in no)

source_formed : (o : Option Base) (text : List ℕ) (value : Value) → place_value true o text ≡ Ok value → IsSource value
source_formed None text value never = absurd (let no : ⊥ = cc in no)
source_formed (Some base.Install) text value is = (install_few text value is).1
source_formed (Some base.Artifact) text value is = let value_is : Place base.Artifact [] ≡ value = cc in subst IsSource value_is refl

more_formed : (text : List ℕ) (path : Result (List (List ℕ)) Fault) (value : Value) → path_of text ≡ path → one_or_more path ≡ Ok value → AreNames value
more_formed text (Ok []) value is never = absurd (let no : ⊥ = cc in no)
more_formed text (Ok (name ∷ names)) value is same =
    let value_is : Names (name ∷ names) ≡ value = cc in
    subst AreNames value_is (omega arith, path_few text (name ∷ names) is)
more_formed text (Err refusal) value is never = absurd (let no : ⊥ = cc in no)

some_formed : (text : List ℕ) (value : Value) → some_names text ≡ Ok value → AreNames value
unfolding some_names
some_formed text value = by (begins_with_slash text)
  where
    by : (b : Bool) → cond b (Err fault.Outside) (one_or_more (path_of text)) ≡ Ok value → AreNames value
    by true never = absurd (let no : ⊥ = cc in no)
    by false is = more_formed text (path_of text) value refl is

names_formed : (o : Option Base) (text : List ℕ) (value : Value) → names_value o text ≡ Ok value → AreNames value
names_formed None text value is = some_formed text value is
names_formed (Some b) text value never = absurd (let no : ⊥ = cc in no)

plain_short : (text : List ℕ) → is_plain text ≡ true → length text ≤ 4096
unfolding is_plain
plain_short text is =
    let short = (both (not (is_empty text)) (nat_le (length text) 4096) (both (not (is_empty text) && nat_le (length text) 4096) (not (has 0 text)) is).0).1 in
    grind (arith, nat_tests)

plain_text : (text : List ℕ) (value : Value) → plain_value None text ≡ Ok value → IsPlain value
plain_text text value = by (is_plain text) refl
  where
    by : (b : Bool) → is_plain text ≡ b → cond b (Ok (Plain text)) (Err fault.Form) ≡ Ok value → IsPlain value
    by true is same = let value_is : Plain text ≡ value = cc in subst IsPlain value_is (plain_short text is)
    by false is never = absurd (let no : ⊥ = cc in no)

plain_formed : (o : Option Base) (text : List ℕ) (value : Value) → plain_value o text ≡ Ok value → IsPlain value
plain_formed None text value is = plain_text text value is
plain_formed (Some b) text value never = absurd (let no : ⊥ = cc in no)

octal : (b : ℕ) → is_octal b ≡ true → b ≤ 55
octal b is = let most = (both (nat_le 48 b) (nat_le b 55) is).1 in grind (arith, nat_tests)

mode_of_three : (a b c mode : ℕ) → mode_of (a ∷ b ∷ c ∷ []) ≡ Some mode → mode ≤ 511
mode_of_three a b c mode = by (is_octal a && is_octal b && is_octal c) refl
  where
    by : (t : Bool) → (is_octal a && is_octal b && is_octal c) ≡ t → cond t (Some (64 * (a - 48) + 8 * (b - 48) + (c - 48))) None ≡ Some mode → mode ≤ 511
    by true is same =
        let front = both (is_octal a && is_octal b) (is_octal c) is in
        let two = both (is_octal a) (is_octal b) front.0 in
        let mode_is : 64 * (a - 48) + 8 * (b - 48) + (c - 48) ≡ mode = cc in
        omega (arith, mode_is, octal a two.0, octal b two.1, octal c front.1)
    by false is never = absurd (let no : ⊥ = cc in no)

mode_small : (text : List ℕ) (mode : ℕ) → mode_of text ≡ Some mode → mode ≤ 511
mode_small [] mode never = absurd (let no : ⊥ = cc in no)
mode_small (a ∷ []) mode never = absurd (let no : ⊥ = cc in no)
mode_small (a ∷ b ∷ []) mode never = absurd (let no : ⊥ = cc in no)
mode_small (a ∷ b ∷ c ∷ []) mode is = mode_of_three a b c mode is
mode_small (a ∷ b ∷ c ∷ d ∷ text) mode never = absurd (let no : ⊥ = cc in no)

mode_text : (text : List ℕ) (value : Value) → mode_value None text ≡ Ok value → IsMode value
mode_text text value = by (mode_of text) refl
  where
    by : (found : Option ℕ) → mode_of text ≡ found → mode_or_fault found ≡ Ok value → IsMode value
    by (Some mode) is same = let value_is : Mode mode ≡ value = cc in subst IsMode value_is (mode_small text mode is)
    by None is never = absurd (let no : ⊥ = cc in no)

mode_formed : (o : Option Base) (text : List ℕ) (value : Value) → mode_value o text ≡ Ok value → IsMode value
mode_formed None text value is = mode_text text value is
mode_formed (Some b) text value never = absurd (let no : ⊥ = cc in no)

flag_formed : (o : Option Base) (text : List ℕ) → IsFlag (flag_value o text)
flag_formed None text = tt
flag_formed (Some b) text = tt

pub formed_has_form : (slot_form : Form) (opened : Opened) (value : Value) → formed slot_form opened ≡ Ok value → HasForm (wanted slot_form) value
unfolding formed
formed_has_form form.Place opened value is = place_formed opened.0 opened.1 value is
formed_has_form form.Source opened value is = source_formed opened.0 opened.1 value is
formed_has_form form.Names opened value is = names_formed opened.0 opened.1 value is
formed_has_form form.Plain opened value is = plain_formed opened.0 opened.1 value is
formed_has_form form.Flag opened value is = let value_is : flag_value opened.0 opened.1 ≡ value = cc in subst IsFlag value_is (flag_formed opened.0 opened.1)
formed_has_form form.Mode opened value is = mode_formed opened.0 opened.1 value is
