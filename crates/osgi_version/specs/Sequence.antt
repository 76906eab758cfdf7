-- How an interval's text is made of its parts. Clauses of private functions alone cite this.
use Rattle.std.specs.Prelude.{◌≡◌, ℕ, ◌==◌, ◌||◌, Bool, true, List, ◌∷◌, ◌++◌}
use Rattle.std.specs.List.{AllPass}
use Rattle.osgi_version.specs.VersionText.{is_white, IsVersionText}

-- A text of one kind, a mark, and a text of another kind.
pub record Sequence (First : List ℕ → Type 0) (is_mark : ℕ → Bool) (Rest : List ℕ → Type 0) (text : List ℕ) : Type 0 where
  pub front : List ℕ
  pub mark : ℕ
  pub rest : List ℕ
  pub spelling : text ≡ front ++ mark ∷ rest
  pub first : First front
  pub marked : is_mark mark ≡ true
  pub behind : Rest rest

abbrev pub IsWhite : List ℕ → Type 0
IsWhite = AllPass is_white

abbrev pub is_comma : ℕ → Bool
is_comma b = b == 44

abbrev pub is_opening : ℕ → Bool
is_opening b = b == 91 || b == 40

abbrev pub is_closing : ℕ → Bool
is_closing b = b == 93 || b == 41

-- what stands behind the comma of an interval
abbrev pub IsCeilingText : List ℕ → Type 0
IsCeilingText = Sequence IsVersionText is_closing IsWhite

-- what stands behind the opening bracket of an interval
abbrev pub IsBoundsText : List ℕ → Type 0
IsBoundsText = Sequence IsVersionText is_comma IsCeilingText

abbrev pub IsIntervalText : List ℕ → Type 0
IsIntervalText = Sequence IsWhite is_opening IsBoundsText
