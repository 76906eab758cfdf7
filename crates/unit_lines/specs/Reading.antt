-- What a reader answers, against how values are spelled.
use Rattle.std.specs.Prelude.{◌≡◌, ◌≢◌, ℕ, List, [], ◌∷◌, map, Option, Some, None}
use Rattle.std.specs.List.{All}
use Rattle.std.specs.Str.{IsUtf8}
use Rattle.std.specs.Fmt.{decimal}
use Rattle.osgi_version.specs.Field.{field}
use Rattle.unit_lines.specs.declared.rows.Asked.{Asked}
use Rattle.unit_lines.specs.declared.rows.RequiredTexts.{RequiredTexts}
use Rattle.unit_lines.specs.Words.{word_of}
use Rattle.unit_lines.specs.declared.words.Kind.{Kind}
use Rattle.unit_lines.specs.declared.part.Part.{Part}
use Rattle.unit_lines.specs.Parts.{IsPart, IsSmall, kind_of, part_texts, truth_text}

-- A value in its form that is spelled so, or nothing where there is none.
abbrev pub IsReading : {X Y : Type 0} → (X → Type 0) → (X → Y) → Y → Option X → Type 0
IsReading Form spelling y (Some x) = Form x × (spelling x ≡ y)
IsReading {X} Form spelling y None = (x : X) → Form x → spelling x ≢ y

-- The part is in its form and of this kind.
pub record IsPartOf (kind : Kind) (part : Part) : Type 0 where
  pub is : kind_of part ≡ kind
  pub form : IsPart part

pub record IsAsked (a : Asked) : Type 0 where
  pub min : IsSmall a.min
  pub max : IsSmall a.max

abbrev pub asked_texts : Asked → List (List ℕ)
asked_texts a = decimal a.min ∷ decimal a.max ∷ truth_text a.greedy ∷ []

abbrev pub all_texts : RequiredTexts → List (List ℕ)
all_texts t = t.namespace.now ∷ t.name.now ∷ t.range.now ∷ t.min.now ∷ t.max.now ∷ t.greedy.now ∷ t.filter.now ∷ []

-- The part has this word and these fields.
pub record IsWorded (word : List ℕ) (fields : List (List ℕ)) (part : Part) : Type 0 where
  pub form : IsPart part
  pub utf8 : All IsUtf8 (part_texts part)
  pub worded : word_of (kind_of part) ≡ word
  pub spelled : map field (part_texts part) ≡ fields

abbrev pub IsNoPart : List ℕ → List (List ℕ) → Type 0
IsNoPart word fields = (part : Part) → ¬ (IsWorded word fields part)
