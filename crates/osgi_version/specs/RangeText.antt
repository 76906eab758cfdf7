-- The texts of ranges (OSGi Core, "Version Ranges"), with white space around them and around their versions.
use Rattle.std.specs.Prelude.{◌≡◌, ℕ, Bool, true, false, List, [], ◌∷◌, ◌++◌, Option, Some, None, MatchOption}
use Rattle.std.specs.List.{AllPass}
use Rattle.osgi_version.specs.VersionText.{is_white, DenotesVersion, IsVersion, version_text}
use Rattle.osgi_version.specs.declared.range.Ceiling.{Ceiling}
use Rattle.osgi_version.specs.declared.range.Range.{Range}

-- `[` where the floor is included, or `(`
abbrev pub opening : Bool → ℕ
opening true = 91
opening false = 40

-- `]` where the ceiling is included, or `)`
abbrev pub closing : Bool → ℕ
closing true = 93
closing false = 41

-- The text is a version's, and stands for that version and all above it.
pub record IsFloorText (text : List ℕ) (r : Range) : Type 0 where
  pub denotes : DenotesVersion text r.floor
  pub included : r.floor_included ≡ true

-- The text is two versions' texts, with brackets that say whether each bound is included.
pub record IsInterval (text : List ℕ) (r : Range) (c : Ceiling) : Type 0 where
  pub before : List ℕ
  pub floor : List ℕ
  pub ceiling : List ℕ
  pub after : List ℕ
  pub spelling : text ≡ before ++ opening r.floor_included ∷ (floor ++ 44 ∷ (ceiling ++ closing c.included ∷ after))
  pub white_before : AllPass is_white before
  pub white_after : AllPass is_white after
  pub floor_denotes : DenotesVersion floor r.floor
  pub ceiling_denotes : DenotesVersion ceiling c.version

-- The text spells the range.
abbrev pub DenotesRange : List ℕ → Range → Type 0
DenotesRange text r = MatchOption r.ceiling (IsFloorText text r) (IsInterval text r)

abbrev pub IsRangeText : List ℕ → Type 0
IsRangeText text = (r : Range) × DenotesRange text r

-- The range has a text: its versions have one, and without a ceiling its floor is included.
pub record IsRange (r : Range) : Type 0 where
  pub floor : IsVersion r.floor
  pub ceiling : MatchOption r.ceiling (r.floor_included ≡ true) (λ c. IsVersion c.version)

abbrev pub text_up_to : Range → Option Ceiling → List ℕ
text_up_to r None = version_text r.floor
text_up_to r (Some c) = opening r.floor_included ∷ (version_text r.floor ++ 44 ∷ (version_text c.version ++ closing c.included ∷ []))

-- the canonical text
abbrev pub range_text : Range → List ℕ
range_text r = text_up_to r r.ceiling
