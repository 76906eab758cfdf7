-- What is answered of the first line.
use Rattle.std.proofs.Common.{◌≡◌, ℕ, ◌<◌, ◌≤◌, Bor, true, List, [], ◌∷◌, ◌++◌, length, get_or, map, refl, ap, ◌∙◌, subst, arith, append-nil, All}
use Rattle.std.specs.Str.{IsUtf8}
use Rattle.std.proofs.lemmas.List.Elements.{All-nil, All-cons, All-head}
use Rattle.std.proofs.lemmas.Str.{IsUtf8-from_ascii}
use Rattle.std.proofs.lemmas.Str.Ascii.{IsAscii-nil, IsAscii-cons}
use Rattle.osgi_version.specs.VersionText.{version, version_text}
use Rattle.unit_model.specs.declared.name.UnitName.{UnitName}
use Rattle.unit_model.specs.declared.unit.Unit.{Unit as Package}
use Rattle.unit_model.specs.UnitId.{is_id_byte}
use Rattle.unit_lines.specs.Line.{seen}
use Rattle.unit_lines.specs.Parts.{IsLineOf, part_line, part_texts}
use Rattle.unit_lines.specs.declared.part.Part.TheVariants as part
use Rattle.unit_text.specs.UnitText.{unit_lines, singleton_parts, filter_parts, late_parts}
use Rattle.unit_text.specs.Draft.{bare, NoName}
use Rattle.unit_text.specs.UnitReading.{HasText, IsBadLine, AreCutOff}
use Rattle.unit_text.proofs.Outcomes.{bare_draft}
use Rattle.unit_text.proofs.Takes.{goes_on, ascii_range}

some_name : UnitName
some_name = record { id = 97 ∷ []; version = version 0 0 0 [] }

ascii_a : IsUtf8 (97 ∷ [])
ascii_a = IsUtf8-from_ascii (97 ∷ []) (IsAscii-cons 97 [] (omega arith) IsAscii-nil)

some_line : IsLineOf (part_line (part.Name some_name)) (part.Name some_name)
unfolding some_name
some_line = record {
  form = record {
    id = record { some = λ e. cc; short = omega arith; each = All-cons (λ b. is_id_byte b ≡ true) 97 [] refl (All-nil (λ b. is_id_byte b ≡ true)); not_dot = λ e. (let no : 97 ≡ 46 = ap (λ (l : List ℕ). get_or l 0 0) e in omega (arith, no)); not_dots = λ e. cc };
    version = record { major = omega arith; minor = omega arith; micro = omega arith; qualifier = All-nil _; short = omega arith };
  };
  utf8 = All-cons IsUtf8 (97 ∷ []) (version_text (version 0 0 0 []) ∷ []) ascii_a (All-cons IsUtf8 (version_text (version 0 0 0 [])) [] ascii_range (All-nil IsUtf8));
  spelling = refl;
}

-- Each unit has a first line.
first_line : (u : Package) → HasText u → IsLineOf (part_line (part.Name u.name)) (part.Name u.name)
first_line u has = record {
  form = has.form.name;
  utf8 = All-head (λ p. All IsUtf8 (part_texts p)) (part.Name u.name) _ has.texts;
  spelling = refl;
}

-- Nothing is read of no lines, and some unit goes on.
pub no_lines : AreCutOff []
no_lines =
    let g = goes_on (bare some_name) (bare_draft (part_line (part.Name some_name)) some_name some_line) in
    record {
      unit = g.unit;
      next = part_line (part.Name g.unit.name);
      behind = map part_line (((singleton_parts g.unit.singleton ++ filter_parts g.unit.filter) ++ (part.Update g.unit.update ∷ late_parts g.unit)) ++ part.End ∷ []);
      has_text = g.has_text;
      spelling = refl;
      none = λ u s has e. cc;
    }

no_first : (line : List ℕ) → NoName line → (u : Package) → HasText u → (r s : List (List ℕ)) → unit_lines u ++ s ≡ line ∷ r → ⊥
no_first line none u has r s e =
    let here : part_line (part.Name u.name) ≡ line = cc in
    none u.name (subst (λ l. IsLineOf l (part.Name u.name)) here (first_line u has))

-- A first line that is no unit's name.
pub not_named : (line : List ℕ) (rest : List (List ℕ)) → NoName line → IsBadLine (line ∷ rest) 1
not_named line rest none = record {
  some = omega arith;
  within = omega arith;
  begins = record { unit = no_lines.unit; behind = unit_lines no_lines.unit; has_text = no_lines.has_text; spelling = refl };
  first = λ b. no_first line none b.unit b.has_text b.behind [] (append-nil (unit_lines b.unit) ∙ b.spelling);
  none = λ u s has e. no_first line none u has rest s e;
}

pub none_there : (lines : List (Bor (List ℕ))) → length lines < 1 → AreCutOff (seen lines)
none_there [] short = no_lines
none_there (line ∷ lines) short = absurd (omega arith)

pub not_named_there : (lines : List (Bor (List ℕ))) (d : Bor (List ℕ)) → 1 ≤ length lines → NoName (get_or lines 0 d).now → IsBadLine (seen lines) 1
not_named_there [] d some none = absurd (omega arith)
not_named_there (line ∷ lines) d some none = not_named line.now (seen lines) none
