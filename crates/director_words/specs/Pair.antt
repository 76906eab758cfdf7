use Rattle.std.specs.Prelude.{◌≡◌, ℕ, List, ◌∷◌, ◌++◌}
use Rattle.ldap_filter.specs.EnvPairs.{IsEnvKey}

-- `KEY=VALUE`. No key has a `=`, so the word is cut at its first one; the value is whatever stands behind.
pub record IsPair (word : List ℕ) : Type 0 where
  pub key : List ℕ
  pub value : List ℕ
  pub whole : word ≡ key ++ 61 ∷ value
  pub is_key : IsEnvKey key
