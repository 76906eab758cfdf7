-- The texts of filters (RFC 1960; OSGi Core, "Filter Syntax"), with white space and the limits of this product.
use Rattle.std.specs.Prelude.{◌≡◌, ◌≢◌, ℕ, suc, ◌≤◌, ◌==◌, ◌||◌, not, max, Bool, false, List, [], ◌∷◌, ◌++◌, if◌then◌else◌, codes}
use Rattle.std.specs.List.{AllPass, flat_map}
use Rattle.osgi_version.specs.VersionText.{is_white}
use Rattle.ldap_filter.specs.EnvPairs.{lowered}
use Rattle.ldap_filter.specs.declared.test.Test.{Test}
use Rattle.ldap_filter.specs.declared.test.Test.TheVariants.{Equal, Near, AtLeast, AtMost, Present}
use Rattle.ldap_filter.specs.declared.filter.Filter.{Filter, fold-Filter}
use Rattle.ldap_filter.specs.declared.filter.Filter.TheVariants.{And, Or, Not, Item}
use Rattle.ldap_filter.specs.declared.filter.Filter.TheOpen.{Filter-F}
use Rattle.ldap_filter.specs.declared.filter.Filter.TheOpen as level

abbrev pub IsWhite : List ℕ → Type 0
IsWhite bytes = AllPass is_white bytes

-- any byte but `(`, `)`, `=`, `~`, `<` and `>`
abbrev pub is_attribute_byte : ℕ → Bool
is_attribute_byte b = not (b == 40 || b == 41 || b == 61 || b == 126 || b == 60 || b == 62)

-- The written attribute, with white space around it or none; capital letters stand for small ones.
pub record IsAttribute (written attr : List ℕ) : Type 0 where
  pub before : List ℕ
  pub core : List ℕ
  pub after : List ℕ
  pub spelling : written ≡ before ++ (core ++ after)
  pub white_before : IsWhite before
  pub white_after : IsWhite after
  pub each : AllPass is_attribute_byte core
  pub first : (b : ℕ) × (rest : List ℕ) × (core ≡ b ∷ rest) × (is_white b ≡ false)
  pub last : (front : List ℕ) × (b : ℕ) × (core ≡ front ++ b ∷ []) × (is_white b ≡ false)
  pub value : attr ≡ lowered core

-- `(`, `)` or a backslash: such a byte stands for itself only behind a backslash
abbrev pub is_special : ℕ → Bool
is_special b = b == 40 || b == 41 || b == 92

-- A value as it is written, and what it stands for: a backslash makes the next byte plain.
pub data IsValue : List ℕ → List ℕ → Type 0 where
  Empty : IsValue [] []
  Plain : (b : ℕ) (written value : List ℕ) → is_special b ≡ false → IsValue written value → IsValue (b ∷ written) (b ∷ value)
  Escaped : (b : ℕ) (written value : List ℕ) → IsValue written value → IsValue (92 ∷ b ∷ written) (b ∷ value)

-- The same where each plain `*` stands between two pieces.
pub data ArePieces : List ℕ → List (List ℕ) → Type 0 where
  EmptyPiece : ArePieces [] ([] ∷ [])
  Star : (written : List ℕ) (pieces : List (List ℕ)) → ArePieces written pieces → ArePieces (42 ∷ written) ([] ∷ pieces)
  PlainByte : (b : ℕ) (written piece : List ℕ) (pieces : List (List ℕ)) → (is_special b || b == 42) ≡ false → ArePieces written (piece ∷ pieces) → ArePieces (b ∷ written) ((b ∷ piece) ∷ pieces)
  EscapedByte : (b : ℕ) (written piece : List ℕ) (pieces : List (List ℕ)) → ArePieces written (piece ∷ pieces) → ArePieces (92 ∷ b ∷ written) ((b ∷ piece) ∷ pieces)

-- The operator and the value as they are written. A value that is one `*` asks only whether the attribute is there.
abbrev pub IsTest : List ℕ → Test → Type 0
IsTest written (Equal pieces) = (value : List ℕ) × (written ≡ 61 ∷ value) × (value ≢ 42 ∷ []) × ArePieces value pieces
IsTest written (Near plain) = (value : List ℕ) × (written ≡ 126 ∷ 61 ∷ value) × IsValue value plain
IsTest written (AtLeast plain) = (value : List ℕ) × (written ≡ 62 ∷ 61 ∷ value) × IsValue value plain
IsTest written (AtMost plain) = (value : List ℕ) × (written ≡ 60 ∷ 61 ∷ value) × IsValue value plain
IsTest written Present = written ≡ 61 ∷ 42 ∷ []

-- A filter in parentheses, with white space around it, directly behind `(` and behind `&`, `|` and `!`, or none.
mutual
  pub data Denotes : List ℕ → Filter → Type 0 where
    AllOf : (before gap texts after : List ℕ) (filters : List Filter) → IsWhite before → IsWhite gap → IsWhite after
        → DenoteEach texts filters → Denotes (before ++ 40 ∷ (gap ++ 38 ∷ (texts ++ 41 ∷ after))) (And filters)
    AnyOf : (before gap texts after : List ℕ) (filters : List Filter) → IsWhite before → IsWhite gap → IsWhite after
        → DenoteEach texts filters → Denotes (before ++ 40 ∷ (gap ++ 124 ∷ (texts ++ 41 ∷ after))) (Or filters)
    NoneOf : (before gap text after : List ℕ) (filter : Filter) → IsWhite before → IsWhite gap → IsWhite after
        → Denotes text filter → Denotes (before ++ 40 ∷ (gap ++ 33 ∷ (text ++ 41 ∷ after))) (Not filter)
    Single : (before written tested after attr : List ℕ) (test : Test) → IsWhite before → IsWhite after
        → IsAttribute written attr → IsTest tested test → Denotes (before ++ 40 ∷ (written ++ (tested ++ 41 ∷ after))) (Item attr test)

  -- one filter or more
  pub data DenoteEach : List ℕ → List Filter → Type 0 where
    Last : (text : List ℕ) (filter : Filter) → Denotes text filter → DenoteEach text (filter ∷ [])
    More : (text texts : List ℕ) (filter : Filter) (filters : List Filter) → Denotes text filter → DenoteEach texts filters
        → DenoteEach (text ++ texts) (filter ∷ filters)

abbrev pub greatest : List ℕ → ℕ
greatest [] = 0
greatest (n ∷ ns) = max n (greatest ns)

abbrev pub level_nesting : Filter-F ℕ → ℕ
level_nesting (level.And ns) = suc (greatest ns)
level_nesting (level.Or ns) = suc (greatest ns)
level_nesting (level.Not n) = suc n
level_nesting (level.Item attr test) = 1

-- the greatest number of a filter's `(` that stand unclosed at once
abbrev pub nesting : Filter → ℕ
nesting = fold-Filter ℕ level_nesting

-- The text denotes the filter, and its nesting is allowed.
pub record DenotesFilter (text : List ℕ) (f : Filter) : Type 0 where
  pub denotes : Denotes text f
  pub shallow : nesting f ≤ 64

abbrev pub IsFilterText : List ℕ → Type 0
IsFilterText text = (f : Filter) × DenotesFilter text f

-- The filter has a text.
abbrev pub IsFilter : Filter → Type 0
IsFilter f = (text : List ℕ) × DenotesFilter text f

-- a backslash before a backslash, `*`, `(` and `)`
abbrev pub escape_byte : ℕ → List ℕ
escape_byte b = if is_special b || b == 42 then 92 ∷ b ∷ [] else b ∷ []

abbrev pub escaped : List ℕ → List ℕ
escaped value = flat_map escape_byte value

-- a `*` and a piece
abbrev pub starred_piece : List ℕ → List ℕ
starred_piece piece = 42 ∷ escaped piece

-- the pieces with `*` between them
abbrev pub starred : List (List ℕ) → List ℕ
starred [] = []
starred (p ∷ pieces) = escaped p ++ flat_map starred_piece pieces

abbrev pub test_text : Test → List ℕ
test_text (Equal pieces) = 61 ∷ starred pieces
test_text (Near value) = 126 ∷ 61 ∷ escaped value
test_text (AtLeast value) = 62 ∷ 61 ∷ escaped value
test_text (AtMost value) = 60 ∷ 61 ∷ escaped value
test_text Present = codes "=*"

abbrev pub joined : List (List ℕ) → List ℕ
joined texts = flat_map (λ t. t) texts

-- one level of the text, with the text of each filter below in its place
abbrev pub level_text : Filter-F (List ℕ) → List ℕ
level_text (level.And texts) = 40 ∷ 38 ∷ (joined texts ++ codes ")")
level_text (level.Or texts) = 40 ∷ 124 ∷ (joined texts ++ codes ")")
level_text (level.Not text) = 40 ∷ 33 ∷ (text ++ codes ")")
level_text (level.Item attr test) = 40 ∷ (attr ++ (test_text test ++ codes ")"))

-- the canonical text
abbrev pub filter_text : Filter → List ℕ
filter_text = fold-Filter (List ℕ) level_text
