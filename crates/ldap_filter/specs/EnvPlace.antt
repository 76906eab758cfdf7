-- Where a key stands among entries. Clauses of private functions alone cite this.
use Rattle.std.specs.Prelude.{◌≡◌, ℕ, ◌<◌, ◌≤◌, List, length, take, slice_get, Some, All, Result, Ok, Err}
use Rattle.std.specs.Ordering.{nat_cmp}
use Rattle.std.specs.declared.cmp.Ordering.TheVariants.{Less}
use Rattle.std.specs.Cmp.Lexicographic.{slice_cmp}
use Rattle.ldap_filter.specs.EnvPairs.{IsEnv, Sets}
use Rattle.ldap_filter.specs.EnvSeen.{pairs_seen}
use Rattle.ldap_filter.specs.declared.env.Entry.{Entry}

-- The entries before the place come before the key.
abbrev pub AreBelow : List Entry → List ℕ → ℕ → Type 0
AreBelow entries key place = All (λ e. slice_cmp nat_cmp e.key key ≡ Less) (take place entries)

-- The key is at the place, or comes before what is there.
abbrev pub IsPlace : List Entry → List ℕ → Result ℕ ℕ → Type 0
IsPlace entries key (Ok place) = (place < length entries) × AreBelow entries key place × ((e : Entry) → slice_get entries place ≡ Some e → e.key ≡ key)
IsPlace entries key (Err place) = (place ≤ length entries) × AreBelow entries key place × ((e : Entry) → slice_get entries place ≡ Some e → slice_cmp nat_cmp key e.key ≡ Less)

-- The entries are those of an environment that has another value at the key.
pub record Changes (old new : List Entry) (key value : List ℕ) : Type 0 where
  pub sets : Sets (pairs_seen old) (pairs_seen new) key value
  pub form : IsEnv (pairs_seen new)
