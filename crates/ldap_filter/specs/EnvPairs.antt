-- What clauses see of an environment: its pairs of a key and a value.
use Rattle.std.specs.Prelude.{◌≡◌, ◌≢◌, ℕ, ◌≤◌, ◌==◌, ◌&&◌, not, nat_le, nat_eq, Bool, Option, Some, None, if◌then◌else◌, List, [], ◌∷◌, length, map, All, ⊤}
use Rattle.std.specs.List.{AllPass}
use Rattle.std.specs.Char.{to_ascii_lowercase}
use Rattle.std.specs.Ordering.{nat_cmp}
use Rattle.std.specs.declared.cmp.Ordering.TheVariants.{Less}
use Rattle.std.specs.Cmp.Lexicographic.{pointwise, slice_cmp}

-- a key and its value
abbrev pub EnvPair : Type 0
EnvPair = List ℕ × List ℕ

-- printable ASCII, neither blank nor `=`
abbrev pub is_key_byte : ℕ → Bool
is_key_byte b = nat_le 0x21 b && nat_le b 0x7E && not (b == 61)

-- What may be a key: 1 to 200 printable ASCII bytes without blank and `=`.
pub record IsEnvKey (key : List ℕ) : Type 0 where
  pub some : key ≢ []
  pub short : length key ≤ 200
  pub each : AllPass is_key_byte key

-- with small letters for capital ones
abbrev pub lowered : List ℕ → List ℕ
lowered key = map to_ascii_lowercase key

-- the value at a key
abbrev pub value_of : List EnvPair → List ℕ → Option (List ℕ)
value_of [] key = None
value_of (p ∷ pairs) key = if pointwise nat_eq p.0 key then Some p.1 else value_of pairs key

-- Each key comes before the later ones, by their bytes.
abbrev pub IsRising : List EnvPair → Type 0
IsRising [] = ⊤
IsRising (p ∷ pairs) = All (λ q. slice_cmp nat_cmp p.0 q.0 ≡ Less) pairs × IsRising pairs

-- The key has the form of one and no capital letter, and the value isn't empty.
pub record IsEnvPair (p : EnvPair) : Type 0 where
  pub key : IsEnvKey p.0
  pub low : lowered p.0 ≡ p.0
  pub value : p.1 ≢ []

pub record IsEnv (pairs : List EnvPair) : Type 0 where
  pub rising : IsRising pairs
  pub each : All IsEnvPair pairs

-- a value, or nothing where it is empty
abbrev pub some_unless_empty : List ℕ → Option (List ℕ)
some_unless_empty [] = None
some_unless_empty (b ∷ bytes) = Some (b ∷ bytes)

-- The new environment has this value at the key, or nothing where it is empty, and at each other key what the old one has.
pub record Sets (old new : List EnvPair) (key value : List ℕ) : Type 0 where
  pub at_key : value_of new key ≡ some_unless_empty value
  pub others : (q : List ℕ) → q ≢ key → value_of new q ≡ value_of old q
