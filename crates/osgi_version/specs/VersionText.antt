-- The texts of versions (OSGi Core, "Version"), with white space around them and with the limits of this product.
use Rattle.std.specs.Prelude.{◌≡◌, ◌≢◌, ℕ, ◌+◌, ◌-◌, ◌*◌, ◌≤◌, ◌==◌, ◌||◌, Bool, List, [], ◌∷◌, ◌++◌, length, fold, codes, ⊤}
use Rattle.std.specs.List.{AllPass}
use Rattle.std.specs.Char.{is_ascii_digit, is_ascii_alphanumeric}
use Rattle.std.specs.Fmt.{decimal}
use Rattle.osgi_version.specs.Begins.{IsLongestBegin}
use Rattle.osgi_version.specs.declared.version.Version.{Version}
use Rattle.osgi_version.specs.declared.version.VersionFault.{VersionFault}
use Rattle.osgi_version.specs.declared.version.VersionFault.TheVariants.{Bad, Raw, NoMemory}

-- space, tab, LF, form feed or CR
abbrev pub is_white : ℕ → Bool
is_white b = b == 32 || b == 9 || b == 10 || b == 12 || b == 13

-- a letter, a digit, `_` or `-`
abbrev pub is_qualifier_byte : ℕ → Bool
is_qualifier_byte b = is_ascii_alphanumeric b || b == 95 || b == 45

-- what digits stand for, with leading zeros or without
abbrev pub digits_value : List ℕ → ℕ
digits_value digits = fold (λ n digit. 10 * n + (digit - 48)) 0 digits

-- One digit or more, for a number of at most 2147483647.
pub record IsNumber (digits : List ℕ) : Type 0 where
  pub some : digits ≢ []
  pub each : AllPass is_ascii_digit digits
  pub small : digits_value digits ≤ 2147483647

-- One to 80 letters, digits, `_` or `-`.
pub record IsQualifier (bytes : List ℕ) : Type 0 where
  pub some : bytes ≢ []
  pub each : AllPass is_qualifier_byte bytes
  pub short : length bytes ≤ 80

-- the parts that a version is spelled with: what is missing is 0, or an empty qualifier
pub data Parts : Type 0 where
  Nothing : Parts
  Major : (major : List ℕ) → Parts
  Minor : (major minor : List ℕ) → Parts
  Micro : (major minor micro : List ℕ) → Parts
  Qualified : (major minor micro qualifier : List ℕ) → Parts

-- `N`, `N.N`, `N.N.N` or `N.N.N.Q`
abbrev pub spelled : Parts → List ℕ
spelled Nothing = []
spelled (Major a) = a
spelled (Minor a b) = a ++ 46 ∷ b
spelled (Micro a b c) = a ++ 46 ∷ (b ++ 46 ∷ c)
spelled (Qualified a b c q) = a ++ 46 ∷ (b ++ 46 ∷ (c ++ 46 ∷ q))

abbrev pub AreParts : Parts → Type 0
AreParts Nothing = ⊤
AreParts (Major a) = IsNumber a
AreParts (Minor a b) = IsNumber a × IsNumber b
AreParts (Micro a b c) = IsNumber a × IsNumber b × IsNumber c
AreParts (Qualified a b c q) = IsNumber a × IsNumber b × IsNumber c × IsQualifier q

abbrev pub version : ℕ → ℕ → ℕ → List ℕ → Version
version a b c q = record { major = a; minor = b; micro = c; qualifier = q }

abbrev pub version_of : Parts → Version
version_of Nothing = version 0 0 0 []
version_of (Major a) = version (digits_value a) 0 0 []
version_of (Minor a b) = version (digits_value a) (digits_value b) 0 []
version_of (Micro a b c) = version (digits_value a) (digits_value b) (digits_value c) []
version_of (Qualified a b c q) = version (digits_value a) (digits_value b) (digits_value c) q

-- The text spells the version, with white space before and after it or none.
pub record DenotesVersion (text : List ℕ) (v : Version) : Type 0 where
  pub before : List ℕ
  pub parts : Parts
  pub after : List ℕ
  pub spelling : text ≡ before ++ (spelled parts ++ after)
  pub white_before : AllPass is_white before
  pub white_after : AllPass is_white after
  pub are_parts : AreParts parts
  pub value : v ≡ version_of parts

abbrev pub IsVersionText : List ℕ → Type 0
IsVersionText text = (v : Version) × DenotesVersion text v

-- The version has a text.
pub record IsVersion (v : Version) : Type 0 where
  pub major : v.major ≤ 2147483647
  pub minor : v.minor ≤ 2147483647
  pub micro : v.micro ≤ 2147483647
  pub qualifier : AllPass is_qualifier_byte v.qualifier
  pub short : length v.qualifier ≤ 80

-- The text begins `raw:`, with white space before it or none.
abbrev pub IsRaw : List ℕ → Type 0
IsRaw text = (before rest : List ℕ) × AllPass is_white before × (text ≡ before ++ (codes "raw:" ++ rest))

-- Why a text is refused where the texts of this kind are accepted. Want of memory has no cause.
abbrev pub IsFault : (List ℕ → Type 0) → List ℕ → VersionFault → Type 0
IsFault Accepted text (Bad at) = ¬ (IsRaw text) × ¬ (Accepted text) × IsLongestBegin Accepted text at
IsFault Accepted text Raw = IsRaw text
IsFault Accepted text NoMemory = ⊤

-- the qualifier behind its dot, where there is one
abbrev pub qualifier_text : List ℕ → List ℕ
qualifier_text [] = []
qualifier_text (b ∷ bytes) = 46 ∷ b ∷ bytes

-- the canonical text
abbrev pub version_text : Version → List ℕ
version_text v =
    decimal v.major ++ 46 ∷ (decimal v.minor ++ 46 ∷ (decimal v.micro ++ qualifier_text v.qualifier))
