-- What the readings of an interval's parts stand for. Clauses of private functions alone cite this.
use Rattle.std.specs.Prelude.{◌≡◌, ℕ, ◌<◌, ◌≤◌, Bool, true, false, None, IsSomeAnd, List, ◌∷◌, ◌++◌, length, take, slice_index}
use Rattle.std.specs.List.{AllPass}
use Rattle.osgi_version.specs.Begins.{IsLongestBegin}
use Rattle.osgi_version.specs.VersionText.{is_white, IsVersionText, DenotesVersion}
use Rattle.osgi_version.specs.VersionReading.{version_in, IsReadingAt}
use Rattle.osgi_version.specs.RangeText.{opening, closing}
use Rattle.osgi_version.specs.declared.reading.Reading.{Reading}
use Rattle.osgi_version.specs.declared.range.Range.{Range}
use Rattle.osgi_version.specs.declared.interval.Bounds.{Bounds}
use Rattle.osgi_version.specs.declared.interval.RangeReading.{RangeReading}
use Rattle.osgi_version.specs.declared.interval.RangeReading.TheVariants.{Floor, Interval}

-- The whole text is a version's, and was read so.
pub record IsBound (text : List ℕ) (r : Reading) : Type 0 where
  pub reading : IsReadingAt (length text) r
  pub denotes : DenotesVersion text (version_in text r)

-- A version's text goes no further than to a mark.
pub record IsCut (text front : List ℕ) (r : Reading) (mark : ℕ) (rest : List ℕ) : Type 0 where
  pub spelling : text ≡ front ++ mark ∷ rest
  pub bound : IsBound front r
  pub longest : IsLongestBegin IsVersionText text (length front)

-- The longest front that some version's text begins with is no version's text, or all of the text.
pub record IsStuck (text : List ℕ) (at : ℕ) : Type 0 where
  pub longest : IsLongestBegin IsVersionText text at
  pub no_version : at < length text → ¬ (IsVersionText (take at text))

-- The text begins with so much white space, and with no more.
pub record IsWhiteLength (text : List ℕ) (at : ℕ) : Type 0 where
  pub within : at ≤ length text
  pub white : AllPass is_white (take at text)
  pub ends : at < length text → is_white (slice_index text at) ≡ false

-- The text is a version's text, the closing bracket and white space.
pub record IsCeilingOf (text ceiling : List ℕ) (r : Reading) (included : Bool) : Type 0 where
  pub after : List ℕ
  pub spelling : text ≡ ceiling ++ closing included ∷ after
  pub bound : IsBound ceiling r
  pub white_after : AllPass is_white after

-- The text is what stands behind the opening bracket of an interval.
pub record AreBoundsOf (text floor : List ℕ) (r : Reading) (ceiling : List ℕ) (s : Reading) (included : Bool) : Type 0 where
  pub behind : List ℕ
  pub spelling : text ≡ floor ++ 44 ∷ behind
  pub bound : IsBound floor r
  pub ceiling_of : IsCeilingOf behind ceiling s included

-- The text is an interval's.
pub record IsIntervalOf (text : List ℕ) (floor_included : Bool) (bounds : Bounds) : Type 0 where
  pub before : List ℕ
  pub behind : List ℕ
  pub spelling : text ≡ before ++ opening floor_included ∷ behind
  pub white_before : AllPass is_white before
  pub bounds_of : AreBoundsOf behind bounds.floor.text.now bounds.floor.reading bounds.ceiling.text.now bounds.ceiling.reading bounds.ceiling_included

-- The whole text is read so.
abbrev pub IsReadingOf : List ℕ → RangeReading → Type 0
IsReadingOf text (Floor bound) = (bound.text.now ≡ text) × IsBound text bound.reading
IsReadingOf text (Interval floor_included bounds) = IsIntervalOf text floor_included bounds

-- Each bound is read whole.
abbrev pub AreRead : RangeReading → Type 0
AreRead (Floor bound) = IsBound bound.text.now bound.reading
AreRead (Interval floor_included bounds) = IsBound bounds.floor.text.now bounds.floor.reading × IsBound bounds.ceiling.text.now bounds.ceiling.reading

-- The range has the versions and the brackets that were read.
abbrev pub IsRangeOf : RangeReading → Range → Type 0
IsRangeOf (Floor bound) r = DenotesVersion bound.text.now r.floor × (r.floor_included ≡ true) × (r.ceiling ≡ None)
IsRangeOf (Interval floor_included bounds) r =
    DenotesVersion bounds.floor.text.now r.floor × (r.floor_included ≡ floor_included)
    × IsSomeAnd r.ceiling (λ c. DenotesVersion bounds.ceiling.text.now c.version × (c.included ≡ bounds.ceiling_included))
