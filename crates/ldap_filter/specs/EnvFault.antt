use Rattle.std.specs.Prelude.{List, ℕ, ⊤}
use Rattle.ldap_filter.specs.EnvPairs.{IsEnvKey}
use Rattle.ldap_filter.specs.declared.env_fault.EnvFault.{EnvFault}
use Rattle.ldap_filter.specs.declared.env_fault.EnvFault.TheVariants.{BadKey, NoMemory}

-- Why a key isn't set: it has no key's form. Want of memory has no cause.
abbrev pub IsEnvFault : List ℕ → EnvFault → Type 0
IsEnvFault key BadKey = ¬ (IsEnvKey key)
IsEnvFault key NoMemory = ⊤
