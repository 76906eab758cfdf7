-- What is read of lines: a unit, or the first line that no unit has there.
use Rattle.std.specs.Prelude.{◌≡◌, ◌≢◌, ℕ, ◌-◌, ◌≤◌, ⊤, List, ◌∷◌, ◌++◌, length, take}
use Rattle.unit_model.specs.declared.unit.Unit.{Unit as Package}
use Rattle.unit_text.specs.UnitText.{IsUnit, AreTexts, unit_lines}
use Rattle.unit_text.specs.declared.taking.TakenUnit.{TakenUnit}
use Rattle.unit_text.specs.declared.fault.BadLines.{BadLines}
use Rattle.unit_text.specs.declared.fault.BadLines.TheVariants as bad_lines

-- The unit is in form and made of texts, so it has a text.
pub record HasText (u : Package) : Type 0 where
  pub form : IsUnit u
  pub texts : AreTexts u

-- Some unit's lines begin with these.
pub record BeginUnit (lines : List (List ℕ)) : Type 0 where
  pub unit : Package
  pub behind : List (List ℕ)
  pub has_text : HasText unit
  pub spelling : unit_lines unit ≡ lines ++ behind

-- No unit's lines stand first.
abbrev pub NoUnitFirst : List (List ℕ) → Type 0
NoUnitFirst lines = (u : Package) (behind : List (List ℕ)) → HasText u → unit_lines u ++ behind ≢ lines

-- So many lines from the first on are those of the unit.
pub record IsTaken (lines : List (List ℕ)) (taken : TakenUnit) : Type 0 where
  pub has_text : HasText taken.unit
  pub within : taken.lines ≤ length lines
  pub spelling : take taken.lines lines ≡ unit_lines taken.unit

-- The line, counted from 1, is the first such that no unit's lines begin with the lines up to it.
pub record IsBadLine (lines : List (List ℕ)) (at : ℕ) : Type 0 where
  pub some : 1 ≤ at
  pub within : at ≤ length lines
  pub begins : BeginUnit (take (at - 1) lines)
  pub first : ¬ (BeginUnit (take at lines))
  pub none : NoUnitFirst lines

-- Some unit's lines begin with all of these and go on.
pub record AreCutOff (lines : List (List ℕ)) : Type 0 where
  pub unit : Package
  pub next : List ℕ
  pub behind : List (List ℕ)
  pub has_text : HasText unit
  pub spelling : unit_lines unit ≡ lines ++ next ∷ behind
  pub none : NoUnitFirst lines

-- Why no unit is taken. Want of memory has no cause.
abbrev pub IsBadLines : List (List ℕ) → BadLines → Type 0
IsBadLines lines (bad_lines.Line at) = IsBadLine lines at
IsBadLines lines bad_lines.CutOff = AreCutOff lines
IsBadLines lines bad_lines.NoMemory = ⊤
